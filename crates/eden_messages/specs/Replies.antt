-- A mount's reply to a request.
use Rattle.std.specs.Prelude.{ℕ, nat_lt, if◌then◌else◌, List, length, Option, Some, None, filter}
use Rattle.eden_ids.specs.declared.id.Id.{Id}
use Rattle.eden_ids.specs.FileMaps.{FileMap, file_at, paths}
use Rattle.eden_globs.specs.Filters.{Patterns, admits}
use Rattle.eden_history.specs.declared.answer.SinceFault.{SinceFault}
use Rattle.eden_history.specs.declared.answer.SinceFault.TheVariants as since
use Rattle.eden_messages.specs.declared.message.Cause.{Cause}
use Rattle.eden_messages.specs.declared.message.Cause.TheVariants.{Stale, Ahead, Truncated, TooLarge}
use Rattle.eden_messages.specs.declared.message.Query.{Query}
use Rattle.eden_messages.specs.declared.message.Reply.{Reply}
use Rattle.eden_messages.specs.declared.message.Reply.TheVariants.{BasisIs, ChangesAre, ContentIs, Refused, ListIs}
use Rattle.eden_messages.specs.declared.message.Request.{Request}
use Rattle.eden_messages.specs.declared.message.Request.TheVariants.{Basis, Poll, Fetch, List as Below}
use Rattle.eden_history.specs.Worlds.{WorldState, now, position_of}
use Rattle.eden_history.specs.Legal.{IsWorld}
use Rattle.eden_history.specs.Spellable.{IsSpellable}
use Rattle.eden_history.specs.Changes.{below, prefixes_since}
use Rattle.eden_history.specs.Status.{status_of}
use Rattle.eden_history.specs.Marks.{admitted, marked_since}
use Rattle.eden_stream.specs.Frames.{body_limit}
use Rattle.eden_messages.specs.Spells.{IsRequest, SpellsReply, reply_bytes}

-- the cause with its number; `NoMemory` is never a status
abbrev pub cause_of : SinceFault → Cause
cause_of (since.Stale generation) = Stale generation
cause_of (since.Ahead head) = Ahead head
cause_of (since.Truncated floor) = Truncated floor
cause_of since.NoMemory = TooLarge

-- the paths that hold a file and that the patterns admit, ascending
abbrev pub admitted_paths : Patterns → FileMap → List (List ℕ)
admitted_paths patterns files = filter (admits patterns) (paths files)

-- a reply whose body would be longer than a frame's may be becomes a refusal
unfoldable pub bounded : Query → Reply → Reply
bounded query reply = if nat_lt body_limit (length (reply_bytes reply)) then Refused query TooLarge else reply

-- the paths that hold a file now
abbrev pub basis_reply : WorldState → Query → Patterns → Reply
basis_reply world query patterns =
    bounded query (BasisIs query (position_of (now world)) (admitted_paths patterns (now world).files))

-- the file at the path now
abbrev pub content_reply : WorldState → Query → List ℕ → Reply
content_reply world query path =
    bounded query (ContentIs query (position_of (now world)) path (file_at (now world).files path))

-- the paths below the directory that hold a file now
abbrev pub list_reply : WorldState → Query → List ℕ → Patterns → Reply
list_reply world query prefix patterns =
    bounded query (ListIs query (position_of (now world)) prefix (below prefix (admitted_paths patterns (now world).files)))

-- what changed since a number: the paths that the patterns admit, and all directories
-- between which files were moved
abbrev pub changes_reply : WorldState → Query → ℕ → Patterns → Reply
changes_reply world query since patterns =
    bounded query (ChangesAre query (position_of (now world)) (admitted patterns (marked_since world since)) (prefixes_since world since))

abbrev pub polled : WorldState → Query → ℕ → Patterns → Option SinceFault → Reply
polled world query since patterns (Some fault) = Refused query (cause_of fault)
polled world query since patterns None = changes_reply world query since patterns

abbrev pub reply_of : WorldState → Request → Reply
reply_of world (Basis query patterns) = basis_reply world query patterns
reply_of world (Fetch query path) = content_reply world query path
reply_of world (Below query prefix patterns) = list_reply world query prefix patterns
reply_of world (Poll query since patterns) =
    polled world query since.sequence patterns (status_of world since)

-- every reply to a well-formed request of a spellable world has an encoding
abbrev pub RepliesAreSpelled : Type 0
RepliesAreSpelled = (name : List ℕ → List ℕ → Id) (world : WorldState) (request : Request) → IsWorld name world → IsSpellable world → IsRequest request
    → SpellsReply (reply_bytes (reply_of world request)) (reply_of world request)
