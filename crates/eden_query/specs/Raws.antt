-- The reply that is made of what was held of a mount, and what else is said of it.
use Rattle.std.specs.Prelude.{◌≡◌, ℕ, Bool, true, is_some, IsSome, List, Some, None}
use Rattle.eden_globs.specs.Filters.{Patterns, all_paths}
use Rattle.eden_objects.specs.Closed.{IsClosed}
use Rattle.eden_objects.specs.Commits.{commit_map}
use Rattle.eden_objects.specs.Files.{commit_files}
use Rattle.eden_objects.specs.Laws.{HasAll}
use Rattle.eden_objects.specs.Objects.{Held}
use Rattle.eden_ranges.specs.Expanded.{are_commits, are_comparable, expanded}
use Rattle.eden_messages.specs.declared.message.Reply.{Reply}
use Rattle.eden_messages.specs.declared.message.Reply.TheVariants.{BasisIs, ChangesAre, ContentIs, Refused, ListIs}
use Rattle.eden_messages.specs.declared.message.Request.{Request}
use Rattle.eden_messages.specs.declared.message.Request.TheVariants.{Basis, Poll, Fetch, List as Below}
use Rattle.eden_history.specs.Changes.{below}
use Rattle.eden_history.specs.Worlds.{Commits, Namer}
use Rattle.eden_history.specs.Marks.{admitted}
use Rattle.eden_messages.specs.Replies.{bounded}
use Rattle.eden_messages.specs.Spells.{reply_bytes}
use Rattle.eden_wire.specs.declared.question.Wants.{Wants}
use Rattle.eden_wire.specs.declared.question.Wants.TheVariants as wants
use Rattle.eden_wire.specs.Wanted.{attributes_said, stat_said, status_said}
use Rattle.eden_accumulate.specs.Snapshots.{shown, shown_to}
use Rattle.eden_query.specs.declared.raw.Raw.{Raw}
use Rattle.eden_query.specs.declared.raw.Raw.TheVariants as raw

-- The reply over a store's objects. Of a range: its end, the paths that it names and the patterns
-- admit, and all its directories. Of a snapshot: the paths of its files that the patterns admit,
-- all of them or those below a directory. Else what was held.
abbrev pub told : List Held → Patterns → Raw → Reply
told held patterns (raw.Ranged query range) = bounded query (ChangesAre query range.to (admitted patterns (expanded held range)) range.prefixes)
told held patterns (raw.Based query snapshot) = bounded query (BasisIs query snapshot.position (shown_to patterns held snapshot))
told held patterns (raw.Held query position path content) = bounded query (ContentIs query position path content)
told held patterns (raw.Listed query snapshot prefix) = bounded query (ListIs query snapshot.position prefix (below prefix (shown_to patterns held snapshot)))
told held patterns (raw.Refused query cause) = Refused query cause

-- of a snapshot its files without their bytes, all or those below a directory; else the reply
abbrev pub attributes_told : Namer → List Held → Patterns → Raw → List ℕ
attributes_told name held patterns (raw.Ranged query range) = reply_bytes (told held patterns (raw.Ranged query range))
attributes_told name held patterns (raw.Based query snapshot) = attributes_said name query snapshot.position None patterns (shown held snapshot)
attributes_told name held patterns (raw.Held query position path content) = reply_bytes (told held patterns (raw.Held query position path content))
attributes_told name held patterns (raw.Listed query snapshot prefix) = attributes_said name query snapshot.position (Some prefix) patterns (shown held snapshot)
attributes_told name held patterns (raw.Refused query cause) = reply_bytes (told held patterns (raw.Refused query cause))

-- of a snapshot the paths at which its files are not its commit's; else the reply
abbrev pub status_told : List Held → Patterns → Raw → List ℕ
status_told held patterns (raw.Ranged query range) = reply_bytes (told held patterns (raw.Ranged query range))
status_told held patterns (raw.Based query snapshot) =
    status_said query snapshot.position patterns (shown held snapshot) (commit_files held snapshot.position.root)
status_told held patterns (raw.Held query position path content) = reply_bytes (told held patterns (raw.Held query position path content))
status_told held patterns (raw.Listed query snapshot prefix) = reply_bytes (told held patterns (raw.Listed query snapshot prefix))
status_told held patterns (raw.Refused query cause) = reply_bytes (told held patterns (raw.Refused query cause))

-- the body that is said of it, by what is wanted of the reply
abbrev pub wanted_told : Namer → List Held → Patterns → Wants → Raw → List ℕ
wanted_told name held patterns wants.Whole raw = reply_bytes (told held patterns raw)
wanted_told name held patterns wants.Stat raw = stat_said name (told held patterns raw)
wanted_told name held patterns wants.Attributes raw = attributes_told name held patterns raw
wanted_told name held patterns wants.Status raw = status_told held patterns raw

-- whether the commits are there that the reply takes: two neighbouring roots of a range are equal
-- or are both commits, and the root of a snapshot is a commit
abbrev pub is_answerable : Commits → Raw → Bool
is_answerable commits (raw.Ranged query range) = are_comparable commits range.roots
is_answerable commits (raw.Based query snapshot) = is_some (commits snapshot.position.root)
is_answerable commits (raw.Held query position path content) = true
is_answerable commits (raw.Listed query snapshot prefix) = is_some (commits snapshot.position.root)
is_answerable commits (raw.Refused query cause) = true

-- each commit that it names is there: the roots of a range and the one at its end, and the root of
-- a snapshot or of a file's position
abbrev pub NamesCommits : Commits → Raw → Type 0
NamesCommits commits (raw.Ranged query range) = (are_commits commits range.roots ≡ true) × IsSome (commits range.to.root)
NamesCommits commits (raw.Based query snapshot) = IsSome (commits snapshot.position.root)
NamesCommits commits (raw.Held query position path content) = IsSome (commits position.root)
NamesCommits commits (raw.Listed query snapshot prefix) = IsSome (commits snapshot.position.root)
NamesCommits commits (raw.Refused query cause) = Unit {0}

-- a request's filter, and that of all paths if it has none
abbrev pub patterns_of : Request → Patterns
patterns_of (Basis query patterns) = patterns
patterns_of (Fetch query path) = all_paths
patterns_of (Poll query since patterns) = patterns
patterns_of (Below query prefix patterns) = patterns

-- if each commit that it names is there, the reply is the same over a store with more objects
abbrev pub TellsOver : Type 0
TellsOver = (held more : List Held) → IsClosed held → IsClosed more → HasAll held more → (patterns : Patterns) (raw : Raw)
    → NamesCommits (commit_map held) raw → told more patterns raw ≡ told held patterns raw

-- and so is what else is said of it
abbrev pub SaysOver : Type 0
SaysOver = (name : Namer) (held more : List Held) → IsClosed held → IsClosed more → HasAll held more → (patterns : Patterns) (wants : Wants) (raw : Raw)
    → NamesCommits (commit_map held) raw → wanted_told name more patterns wants raw ≡ wanted_told name held patterns wants raw

-- and it can be made over them
abbrev pub StaysAnswerable : Type 0
StaysAnswerable = (held more : List Held) → IsClosed held → IsClosed more → HasAll held more → (raw : Raw)
    → NamesCommits (commit_map held) raw → is_answerable (commit_map more) raw ≡ true
