-- What a change does to a row: it is refused, makes no event, or makes the next row.
use Rattle.std.specs.Prelude.{ℕ, ◌+◌, ◌-◌, ◌^◌, Bool, true, false, not, ◌&&◌, nat_lt, if◌then◌else◌, ◌∷◌, Option, Some, None, Ok, Err}
use Rattle.std.specs.Option.{option_or}
use Rattle.std.specs.FinMap as fin
use Rattle.eden_ids.specs.declared.id.Id.{Id}
use Rattle.eden_ids.specs.FileMaps.{FileMap, listing}
use Rattle.eden_history.specs.declared.answer.Answer.{Answer}
use Rattle.eden_history.specs.declared.answer.Answer.TheVariants.{At, Checked, Refused}
use Rattle.eden_history.specs.declared.change.Change.{Change}
use Rattle.eden_history.specs.declared.change.Change.TheVariants.{Write, Remove, Rename, RenameDir, Checkout, Reset, Flush, Remount, Import}
use Rattle.eden_history.specs.declared.change.ChangeFault.{ChangeFault}
use Rattle.eden_history.specs.declared.change.ChangeFault.TheVariants.{NoCommit, SequenceExhausted, GenerationNotNew, BadObject, NoMemory}
use Rattle.eden_history.specs.declared.position.Position.{Position}
use Rattle.eden_objects.specs.declared.import.ImportFault.TheVariants as imports
use Rattle.eden_objects.specs.Imports.{Imported, import_outcome}
use Rattle.eden_objects.specs.Files.{files_of}
use Rattle.eden_history.specs.Worlds.{Row, Event, Commits, Namer, WorldState, commits_of, now, position_of}
use Rattle.eden_history.specs.Imports.{world_imported}
use Rattle.eden_history.specs.Renames.{absent_fault, write_fault, rename_fault, renamed}
use Rattle.eden_history.specs.DirRenames.{dir_renamed, rename_dir_fault}
use Rattle.eden_ids.specs.Sameness.{same_bytes}
use Rattle.eden_history.specs.Checkouts.{checked_out, conflicts, is_dry}
use Rattle.eden_history.specs.Named.{moved_prefixes, named, unclean_paths}

-- the commit must exist
abbrev pub commit_fault : Option FileMap → Option ChangeFault
commit_fault None = Some NoCommit
commit_fault (Some files) = None

-- why the files, the commits or the generation refuse a change; an import can be refused
-- only for its objects, by the store (see `answer_of`)
abbrev pub change_fault : Commits → Row → Change → Option ChangeFault
change_fault commits row (Write path kind bytes) = write_fault row.files path bytes
change_fault commits row (Remove path) = absent_fault row.files path
change_fault commits row (Rename old new) = rename_fault row.files old new
change_fault commits row (RenameDir old new) = rename_dir_fault row.files old new
change_fault commits row (Checkout commit mode) = commit_fault (commits commit)
change_fault commits row (Reset commit) = commit_fault (commits commit)
change_fault commits row Flush = None
change_fault commits row (Remount generation) = if nat_lt row.generation generation then None else Some GenerationNotNew
change_fault commits row (Import objects) = None

-- the change makes an event unless it is refused; all do but the rename of a file or a
-- directory to itself, a checkout that is only tried, and an import
abbrev pub is_event : Change → Bool
is_event (Rename old new) = not (same_bytes old new)
is_event (RenameDir old new) = not (same_bytes old new)
is_event (Checkout commit mode) = not (is_dry mode)
is_event (Import objects) = false
is_event change = true

-- the change takes the next number unless it is refused; a remount begins again at number
-- 1
abbrev pub takes_number : Change → Bool
takes_number (Remount generation) = false
takes_number change = is_event change

-- the first cause of refusal that applies; sequence numbers end at 2 ^ 64 - 1
unfoldable pub refusal : Commits → Row → Change → Option ChangeFault
refusal commits row change =
    option_or (change_fault commits row change)
    (if takes_number change && not (nat_lt row.sequence (2 ^ 64 - 1)) then Some SequenceExhausted else None)

-- the files after a change of files
abbrev pub files_changed : FileMap → Change → FileMap
files_changed files (Write path kind bytes) = fin.insert files path (record { kind = kind; bytes = bytes })
files_changed files (Remove path) = fin.remove files path
files_changed files (Rename old new) = renamed files old new
files_changed files (RenameDir old new) = dir_renamed files old new
files_changed files change = files

-- the files after a change that is not refused
unfoldable pub next_files : Commits → Row → Change → FileMap
next_files commits row (Checkout commit mode) = checked_out mode row.files (files_of (commits row.root)) (files_of (commits commit))
next_files commits row change = files_changed row.files change

abbrev pub next_generation : Row → Change → ℕ
next_generation row (Remount generation) = generation
next_generation row change = row.generation

abbrev pub next_sequence : Row → Change → ℕ
next_sequence row (Remount generation) = 1
next_sequence row change = row.sequence + 1

abbrev pub next_root : Row → Change → Id
next_root row (Checkout commit mode) = commit
next_root row (Reset commit) = commit
next_root row change = row.root

unfoldable pub next_row : Commits → Row → Change → Row
next_row commits row change = record {
  generation = next_generation row change;
  sequence = next_sequence row change;
  root = next_root row change;
  files = next_files commits row change;
}

pub data Outcome : Type 0 where
  Refuses : ChangeFault → Outcome
  NoEvent : Outcome
  Next : Event → Outcome

-- the event that a change makes, with the row after it
abbrev pub event_at : Commits → Row → Change → Row → Event
event_at commits before change after = record {
  change = change;
  row = after;
  names = named commits before change after;
  unclean = unclean_paths commits before change after;
  prefixes = moved_prefixes change;
}

abbrev pub judged : Commits → Row → Change → Option ChangeFault → Outcome
judged commits row change (Some fault) = Refuses fault
judged commits row change None = if is_event change then Next (event_at commits row change (next_row commits row change)) else NoEvent

abbrev pub outcome : Commits → Row → Change → Outcome
outcome commits row change = judged commits row change (refusal commits row change)

-- the answer to a checkout, also to one that is only tried, gives its conflicts
abbrev pub answer_at : Commits → Row → Change → Position → Answer
answer_at commits row (Checkout commit mode) position =
    Checked position (listing (conflicts row.files (files_of (commits row.root)) (files_of (commits commit))))
answer_at commits row change position = At position

abbrev pub answered : Commits → Row → Change → Outcome → Answer
answered commits row change (Refuses fault) = Refused fault
answered commits row change NoEvent = answer_at commits row change (position_of row)
answered commits row change (Next event) = answer_at commits row change (position_of event.row)

-- the answer to a change that is not an import, by the rows
abbrev pub row_answer : WorldState → Change → Answer
row_answer world change = answered (commits_of world) (now world) change (outcome (commits_of world) (now world) change)

abbrev pub extended : WorldState → Outcome → WorldState
extended world (Refuses fault) = world
extended world NoEvent = world
extended world (Next event) = record world { past = event ∷ world.past }

-- the world after such a change
abbrev pub row_after : WorldState → Change → WorldState
row_after world change = extended world (outcome (commits_of world) (now world) change)

-- the answer to an import is the present position, even if all objects were there already
abbrev pub import_answer : Position → Imported → Answer
import_answer position (Ok held) = At position
import_answer position (Err (imports.BadObject place fault)) = Refused (BadObject place fault)
import_answer position (Err imports.NoMemory) = Refused NoMemory

-- the answer to a change, and the world after it
abbrev pub answer_of : Namer → WorldState → Change → Answer
answer_of name world (Import objects) = import_answer (position_of (now world)) (import_outcome name objects world.held)
answer_of name world change = row_answer world change

abbrev pub world_after : Namer → WorldState → Change → WorldState
world_after name world (Import objects) = world_imported name world objects
world_after name world change = row_after world change
