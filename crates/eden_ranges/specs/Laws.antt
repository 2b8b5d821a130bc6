-- What a range says of a world.
use Rattle.std.specs.Prelude.{◌≡◌, ℕ, true, List, [], ◌∷◌, ◌++◌, filter, Option, Some, None}
use Rattle.eden_ids.specs.declared.id.Id.{Id}
use Rattle.eden_ids.specs.FileMaps.{same_path}
use Rattle.eden_journal.specs.declared.file_touch.FileTouch.{FileTouch}
use Rattle.eden_journal.specs.FilesChanged.{touches_of}
use Rattle.eden_journal.specs.declared.delta.Delta.{Delta}
use Rattle.eden_journal.specs.declared.delta.Delta.TheVariants.{File, Root}
use Rattle.eden_history.specs.declared.touches.Touch.{Touch}
use Rattle.eden_history.specs.Said.{ends_at}
use Rattle.eden_ranges.specs.Gathered.{said_by}
use Rattle.eden_journal.specs.Histories.{Log, StandsFor}
use Rattle.eden_history.specs.declared.position.Position.{Position}
use Rattle.eden_history.specs.Worlds.{Commits, WorldState, now, position_of}
use Rattle.eden_history.specs.Legal.{IsLegal}
use Rattle.eden_history.specs.Marks.{marked_since}
use Rattle.eden_history.specs.Status.{status_of}
use Rattle.eden_ranges.specs.Histories.{history_of}
use Rattle.eden_ranges.specs.Since.{head_position, log_status, range_of}
use Rattle.eden_ranges.specs.Expanded.{are_commits, are_comparable, expanded}
use Rattle.eden_ranges.specs.WorldRanges.{range_in}

-- the head's position is the world's
abbrev pub HeadsAreNow : Type 0
HeadsAreNow = (world : WorldState) → IsLegal world → (log : Log) → StandsFor log (history_of world) → head_position log ≡ position_of (now world)

-- a position is refused as the world refuses it
abbrev pub RefusalsAreTheWorlds : Type 0
RefusalsAreTheWorlds = (world : WorldState) → IsLegal world → (log : Log) → StandsFor log (history_of world) → (position : Position)
    → log_status log position ≡ status_of world position

-- from a position that is not refused, the range expands to the paths that the world's
-- events since name, each with its mark
abbrev pub RangesAreTheWorlds : Type 0
RangesAreTheWorlds = (world : WorldState) → IsLegal world → (log : Log) → StandsFor log (history_of world) → (position : Position)
    → log_status log position ≡ None → expanded world.held (range_of log position.sequence) ≡ marked_since world position.sequence

-- from a position that is not refused, the range is what the world's events since did
abbrev pub RangesAreSince : Type 0
RangesAreSince = (world : WorldState) → IsLegal world → (log : Log) → StandsFor log (history_of world) → (position : Position)
    → log_status log position ≡ None → range_of log position.sequence ≡ range_in world position.sequence

-- roots that are all commits can be compared
abbrev pub CommitsAreComparable : Type 0
CommitsAreComparable = (commits : Commits) (roots : List Id) → are_commits commits roots ≡ true → are_comparable commits roots ≡ true

-- ---- what changes of files amount to

-- all changes of files at a path, the oldest first
abbrev pub touches_at : List ℕ → List Delta → List FileTouch
touches_at path [] = []
touches_at path (File files ∷ older) = touches_at path older ++ filter (λ touch. same_path path touch.path) (touches_of files)
touches_at path (Root left unclean before ∷ older) = touches_at path older

abbrev pub last_of : FileTouch → List FileTouch → FileTouch
last_of first [] = first
last_of first (next ∷ later) = last_of next later

-- whether a file was there before the first of them, and is there after the last
abbrev pub ends_of : List FileTouch → Option Touch
ends_of [] = None
ends_of (first ∷ later) = Some (record { before = first.before; after = (last_of first later).after })

-- at each path, the deltas of a range amount to what was there before the first change
-- and is there after the last
abbrev pub ChangesAreEnds : Type 0
ChangesAreEnds = (deltas : List Delta) (path : List ℕ) → ends_at path (said_by deltas) ≡ ends_of (touches_at path deltas)
