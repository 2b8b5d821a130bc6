-- What a mount says of its past is what the worlds reply for which it is.
use Rattle.std.proofs.Common.{◌≡◌, ℕ, true, List, Option, Some, None, refl, sym, ap, subst, ◌∙◌}
use Rattle.std.specs.Prelude.{IsSome, Ok, Err}
use Rattle.eden_ids.specs.declared.id.Id.{Id}
use Rattle.eden_objects.specs.Commits.{commit_map}
use Rattle.eden_objects.specs.Files.{commit_files}
use Rattle.eden_objects.specs.Objects.{Held}
use Rattle.eden_messages.specs.Spells.{reply_bytes}
use Rattle.eden_wire.specs.declared.question.Wants.{Wants}
use Rattle.eden_wire.specs.declared.question.Wants.TheVariants as wants
use Rattle.eden_wire.specs.Wanted.{attributes_said, stat_said, status_said, wanted_of}
use Rattle.eden_ids.specs.declared.content.Content.{Content}
use Rattle.eden_ids.specs.FileMaps.{file_at}
use Rattle.eden_globs.specs.Filters.{Patterns}
use Rattle.eden_ranges.specs.declared.ranges.Range.{Range}
use Rattle.eden_ranges.specs.Expanded.{are_commits}
use Rattle.eden_ranges.proofs.Columns.{commits_are_comparable}
use Rattle.eden_accumulate.specs.Mounts.{State, StandsFor, files_of}
use Rattle.eden_accumulate.specs.Snapshots.{shown, shown_to}
use Rattle.eden_accumulate.specs.declared.snapshot.Snapshot.{Snapshot}
use Rattle.eden_accumulate.specs.Ranges.{EndsNow, IsStatus, Tells}
use Rattle.eden_history.specs.declared.answer.SinceFault.{SinceFault}
use Rattle.eden_messages.specs.declared.message.Cause.{Cause}
use Rattle.eden_messages.specs.declared.message.Query.{Query}
use Rattle.eden_messages.specs.declared.message.Reply.TheVariants.{BasisIs, ChangesAre, ContentIs, Refused, ListIs}
use Rattle.eden_messages.specs.declared.message.Request.TheVariants.{Basis, Poll, Fetch, List as Below}
use Rattle.eden_history.specs.declared.position.Position.{Position}
use Rattle.eden_history.specs.Worlds.{Commits, Namer, WorldState, now, position_of}
use Rattle.eden_history.specs.Changes.{below, prefixes_since}
use Rattle.eden_history.specs.Status.{status_of}
use Rattle.eden_history.specs.Marks.{admitted}
use Rattle.eden_messages.specs.Replies.{admitted_paths, bounded, cause_of, polled, reply_of}
use Rattle.eden_query.specs.declared.raw.Raw.{Raw}
use Rattle.eden_query.specs.declared.raw.Raw.TheVariants as raw
use Rattle.eden_query.specs.Raws.{NamesCommits, is_answerable, told, wanted_told}
use Rattle.eden_logs.specs.Histories.{settled_by, settled_of}
use Rattle.eden_query.specs.Settled.{settled}

pub ranged_tells : (mount : State) (query : Query) (since : Position) (patterns : Patterns) (range : Range)
    → IsStatus mount since None → EndsNow mount range → Tells mount since range
    → ((world : WorldState) → StandsFor mount world → range.prefixes ≡ prefixes_since world since.sequence) → (world : WorldState) → StandsFor mount world
    → told mount.held patterns (raw.Ranged query range) ≡ reply_of world (Poll query since patterns)
ranged_tells mount query since patterns range good ends tells prefixes world h =
    (λ i. bounded query (ChangesAre query (ends world h i) (admitted patterns (tells world h i)) (prefixes world h i)))
    ∙ sym (ap (polled world query since.sequence patterns) (good world h))

pub refused_tells : (mount : State) (query : Query) (since : Position) (patterns : Patterns) (fault : SinceFault) (cause : Cause)
    → IsStatus mount since (Some fault) → cause ≡ cause_of fault → (world : WorldState) → StandsFor mount world
    → told mount.held patterns (raw.Refused query cause) ≡ reply_of world (Poll query since patterns)
refused_tells mount query since patterns fault cause is same world h =
    ap (Refused query) same ∙ sym (ap (polled world query since.sequence patterns) (is world h))

pub based_tells : (mount : State) (query : Query) (patterns : Patterns) (snapshot : Snapshot)
    → ((world : WorldState) → StandsFor mount world → snapshot.position ≡ position_of (now world))
    → ((world : WorldState) → StandsFor mount world → (ps : Patterns) → shown_to ps mount.held snapshot ≡ admitted_paths ps (now world).files)
    → (world : WorldState) → StandsFor mount world
    → told mount.held patterns (raw.Based query snapshot) ≡ reply_of world (Basis query patterns)
based_tells mount query patterns snapshot place files world h = λ i. bounded query (BasisIs query (place world h i) (files world h patterns i))

pub listed_tells : (mount : State) (query : Query) (prefix : List ℕ) (patterns : Patterns) (snapshot : Snapshot)
    → ((world : WorldState) → StandsFor mount world → snapshot.position ≡ position_of (now world))
    → ((world : WorldState) → StandsFor mount world → (ps : Patterns) → shown_to ps mount.held snapshot ≡ admitted_paths ps (now world).files)
    → (world : WorldState) → StandsFor mount world
    → told mount.held patterns (raw.Listed query snapshot prefix) ≡ reply_of world (Below query prefix patterns)
listed_tells mount query prefix patterns snapshot place files world h =
    λ i. bounded query (ListIs query (place world h i) prefix (below prefix (files world h patterns i)))

pub held_tells : (mount : State) (query : Query) (patterns : Patterns) (position : Position) (path : List ℕ) (content : Option Content)
    → ((world : WorldState) → StandsFor mount world → position ≡ position_of (now world)) → content ≡ file_at (files_of mount) path
    → (world : WorldState) → StandsFor mount world
    → told mount.held patterns (raw.Held query position path content) ≡ reply_of world (Fetch query path)
held_tells mount query patterns position path content place same world h =
    let value : content ≡ file_at (now world).files path = same ∙ ap (λ f. file_at f path) h.files in
    λ i. bounded query (ContentIs query (place world h i) path (value i))

-- ---- what else is said of it

pub based_wanted : (name : Namer) (mount : State) (query : Query) (patterns : Patterns) (snapshot : Snapshot)
    → ((world : WorldState) → StandsFor mount world → snapshot.position ≡ position_of (now world))
    → ((world : WorldState) → StandsFor mount world → shown mount.held snapshot ≡ (now world).files)
    → (world : WorldState) → StandsFor mount world → (wants : Wants)
    → wanted_told name mount.held patterns wants (raw.Based query snapshot) ≡ wanted_of name world wants (Basis query patterns)
based_wanted name mount query patterns snapshot place seen world h wants.Whole =
    λ i. reply_bytes (bounded query (BasisIs query (place world h i) (admitted_paths patterns (seen world h i))))
based_wanted name mount query patterns snapshot place seen world h wants.Stat =
    λ i. stat_said name (bounded query (BasisIs query (place world h i) (admitted_paths patterns (seen world h i))))
based_wanted name mount query patterns snapshot place seen world h wants.Attributes = λ i. attributes_said name query (place world h i) None patterns (seen world h i)
based_wanted name mount query patterns snapshot place seen world h wants.Status =
    λ i. status_said query (place world h i) patterns (seen world h i) (commit_files (h.held i) ((place world h i).root))

pub listed_wanted : (name : Namer) (mount : State) (query : Query) (prefix : List ℕ) (patterns : Patterns) (snapshot : Snapshot)
    → ((world : WorldState) → StandsFor mount world → snapshot.position ≡ position_of (now world))
    → ((world : WorldState) → StandsFor mount world → shown mount.held snapshot ≡ (now world).files)
    → (world : WorldState) → StandsFor mount world → (wants : Wants)
    → wanted_told name mount.held patterns wants (raw.Listed query snapshot prefix) ≡ wanted_of name world wants (Below query prefix patterns)
listed_wanted name mount query prefix patterns snapshot place seen world h wants.Whole =
    λ i. reply_bytes (bounded query (ListIs query (place world h i) prefix (below prefix (admitted_paths patterns (seen world h i)))))
listed_wanted name mount query prefix patterns snapshot place seen world h wants.Stat =
    λ i. stat_said name (bounded query (ListIs query (place world h i) prefix (below prefix (admitted_paths patterns (seen world h i)))))
listed_wanted name mount query prefix patterns snapshot place seen world h wants.Attributes =
    λ i. attributes_said name query (place world h i) (Some prefix) patterns (seen world h i)
listed_wanted name mount query prefix patterns snapshot place seen world h wants.Status =
    λ i. reply_bytes (bounded query (ListIs query (place world h i) prefix (below prefix (admitted_paths patterns (seen world h i)))))

ranged_said : (name : Namer) (held : List Held) (query : Query) (since : Position) (patterns : Patterns) (range : Range) (world : WorldState)
    → told held patterns (raw.Ranged query range) ≡ reply_of world (Poll query since patterns) → (wants : Wants)
    → wanted_told name held patterns wants (raw.Ranged query range) ≡ wanted_of name world wants (Poll query since patterns)
ranged_said name held query since patterns range world same wants.Whole = ap reply_bytes same
ranged_said name held query since patterns range world same wants.Stat = ap (stat_said name) same
ranged_said name held query since patterns range world same wants.Attributes = ap reply_bytes same
ranged_said name held query since patterns range world same wants.Status = ap reply_bytes same

pub ranged_wanted : (name : Namer) (mount : State) (query : Query) (since : Position) (patterns : Patterns) (range : Range)
    → IsStatus mount since None → EndsNow mount range → Tells mount since range
    → ((world : WorldState) → StandsFor mount world → range.prefixes ≡ prefixes_since world since.sequence) → (world : WorldState) → StandsFor mount world → (wants : Wants)
    → wanted_told name mount.held patterns wants (raw.Ranged query range) ≡ wanted_of name world wants (Poll query since patterns)
ranged_wanted name mount query since patterns range good ends tells prefixes world h wants =
    ranged_said name mount.held query since patterns range world (ranged_tells mount query since patterns range good ends tells prefixes world h) wants

refused_said : (name : Namer) (held : List Held) (query : Query) (since : Position) (patterns : Patterns) (cause : Cause) (world : WorldState)
    → told held patterns (raw.Refused query cause) ≡ reply_of world (Poll query since patterns) → (wants : Wants)
    → wanted_told name held patterns wants (raw.Refused query cause) ≡ wanted_of name world wants (Poll query since patterns)
refused_said name held query since patterns cause world same wants.Whole = ap reply_bytes same
refused_said name held query since patterns cause world same wants.Stat = ap (stat_said name) same
refused_said name held query since patterns cause world same wants.Attributes = ap reply_bytes same
refused_said name held query since patterns cause world same wants.Status = ap reply_bytes same

pub refused_wanted : (name : Namer) (mount : State) (query : Query) (since : Position) (patterns : Patterns) (fault : SinceFault) (cause : Cause)
    → IsStatus mount since (Some fault) → cause ≡ cause_of fault → (world : WorldState) → StandsFor mount world → (wants : Wants)
    → wanted_told name mount.held patterns wants (raw.Refused query cause) ≡ wanted_of name world wants (Poll query since patterns)
refused_wanted name mount query since patterns fault cause is same world h wants =
    refused_said name mount.held query since patterns cause world (refused_tells mount query since patterns fault cause is same world h) wants

held_said : (name : Namer) (held : List Held) (query : Query) (patterns : Patterns) (position : Position) (path : List ℕ) (content : Option Content) (world : WorldState)
    → told held patterns (raw.Held query position path content) ≡ reply_of world (Fetch query path) → (wants : Wants)
    → wanted_told name held patterns wants (raw.Held query position path content) ≡ wanted_of name world wants (Fetch query path)
held_said name held query patterns position path content world same wants.Whole = ap reply_bytes same
held_said name held query patterns position path content world same wants.Stat = ap (stat_said name) same
held_said name held query patterns position path content world same wants.Attributes = ap reply_bytes same
held_said name held query patterns position path content world same wants.Status = ap reply_bytes same

pub held_wanted : (name : Namer) (mount : State) (query : Query) (patterns : Patterns) (position : Position) (path : List ℕ) (content : Option Content)
    → ((world : WorldState) → StandsFor mount world → position ≡ position_of (now world)) → content ≡ file_at (files_of mount) path
    → (world : WorldState) → StandsFor mount world → (wants : Wants)
    → wanted_told name mount.held patterns wants (raw.Held query position path content) ≡ wanted_of name world wants (Fetch query path)
held_wanted name mount query patterns position path content place same world h wants =
    held_said name mount.held query patterns position path content world (held_tells mount query patterns position path content place same world h) wants

-- ---- the commits that it names

-- a mount's root is a commit of its objects
present_there : (mount : State) (position : Position) → ((world : WorldState) → StandsFor mount world → position ≡ position_of (now world))
    → (world : WorldState) × StandsFor mount world → IsSome (commit_map mount.held position.root)
present_there mount position place some =
    let root : position.root ≡ mount.work.root = ap (λ (p : Position). p.root) (place some.0 some.1) ∙ sym some.1.root in
    subst (λ (r : Id). IsSome (commit_map mount.held r)) (sym root) some.1.fits.root

pub ranged_commits : (mount : State) (query : Query) (range : Range) → are_commits (commit_map mount.held) range.roots ≡ true → EndsNow mount range
    → (world : WorldState) × StandsFor mount world → NamesCommits (commit_map mount.held) (raw.Ranged query range)
ranged_commits mount query range roots ends some = (roots, present_there mount range.to ends some)

pub based_commits : (mount : State) (query : Query) (snapshot : Snapshot)
    → ((world : WorldState) → StandsFor mount world → snapshot.position ≡ position_of (now world))
    → (world : WorldState) × StandsFor mount world → NamesCommits (commit_map mount.held) (raw.Based query snapshot)
based_commits mount query snapshot place some = present_there mount snapshot.position place some

pub held_commits : (mount : State) (query : Query) (position : Position) (path : List ℕ) (content : Option Content)
    → ((world : WorldState) → StandsFor mount world → position ≡ position_of (now world))
    → (world : WorldState) × StandsFor mount world → NamesCommits (commit_map mount.held) (raw.Held query position path content)
held_commits mount query position path content place some = present_there mount position place some

pub listed_commits : (mount : State) (query : Query) (snapshot : Snapshot) (prefix : List ℕ)
    → ((world : WorldState) → StandsFor mount world → snapshot.position ≡ position_of (now world))
    → (world : WorldState) × StandsFor mount world → NamesCommits (commit_map mount.held) (raw.Listed query snapshot prefix)
listed_commits mount query snapshot prefix place some = present_there mount snapshot.position place some

-- what names commits alone can be answered
pub named_answerable : (commits : Commits) (raw : Raw) → NamesCommits commits raw → is_answerable commits raw ≡ true
named_answerable commits (raw.Ranged query range) names = commits_are_comparable commits range.roots names.0
named_answerable commits (raw.Based query snapshot) names = names
named_answerable commits (raw.Held query position path content) names = refl
named_answerable commits (raw.Listed query snapshot prefix) names = names
named_answerable commits (raw.Refused query cause) names = refl

-- ---- where it is answered

pub ranged_settled : (mount : State) (query : Query) (since : Position) (range : Range)
    → IsStatus mount since None → EndsNow mount range → (world : WorldState) → StandsFor mount world
    → settled (raw.Ranged query range) ≡ settled_by (position_of (now world)) (status_of world since)
ranged_settled mount query since range good ends world h =
    (λ i. Ok (ends world h i)) ∙ sym (ap (settled_by (position_of (now world))) (good world h))

pub refused_settled : (mount : State) (query : Query) (since : Position) (fault : SinceFault) (cause : Cause)
    → IsStatus mount since (Some fault) → cause ≡ cause_of fault → (world : WorldState) → StandsFor mount world
    → settled (raw.Refused query cause) ≡ settled_by (position_of (now world)) (status_of world since)
refused_settled mount query since fault cause is same world h =
    (λ i. Err (same i)) ∙ sym (ap (settled_by (position_of (now world))) (is world h))

pub based_settled : (mount : State) (query : Query) (snapshot : Snapshot)
    → ((world : WorldState) → StandsFor mount world → snapshot.position ≡ position_of (now world))
    → (world : WorldState) → StandsFor mount world → settled (raw.Based query snapshot) ≡ Ok (position_of (now world))
based_settled mount query snapshot place world h = λ i. Ok (place world h i)

pub listed_settled : (mount : State) (query : Query) (snapshot : Snapshot) (prefix : List ℕ)
    → ((world : WorldState) → StandsFor mount world → snapshot.position ≡ position_of (now world))
    → (world : WorldState) → StandsFor mount world → settled (raw.Listed query snapshot prefix) ≡ Ok (position_of (now world))
listed_settled mount query snapshot prefix place world h = λ i. Ok (place world h i)

pub held_settled : (mount : State) (query : Query) (position : Position) (path : List ℕ) (content : Option Content)
    → ((world : WorldState) → StandsFor mount world → position ≡ position_of (now world))
    → (world : WorldState) → StandsFor mount world → settled (raw.Held query position path content) ≡ settled_of world (Fetch query path)
held_settled mount query position path content place world h = λ i. Ok (place world h i)
