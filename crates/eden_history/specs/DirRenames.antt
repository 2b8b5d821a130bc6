-- Renaming a directory: why it is refused, and the files after it.
use Rattle.std.specs.Prelude.{ℕ, Bool, ◌&&◌, ◌||◌, if◌then◌else◌, List, Option, Some, None, is_some}
use Rattle.std.specs.Option.{option_or}
use Rattle.std.specs.List.{list_any}
use Rattle.eden_ids.specs.Paths.{lies_below, path_fault}
use Rattle.eden_ids.specs.FileMaps.{FileMap, file_at, has_file_above, has_file_below, paths}
use Rattle.eden_ids.specs.Sameness.{same_bytes}
use Rattle.eden_history.specs.declared.change.ChangeFault.{ChangeFault}
use Rattle.eden_history.specs.declared.change.ChangeFault.TheVariants.{NotADirectory, IsADirectory, NoEntry, IntoItself, PathTooLong}
use Rattle.eden_overlay.specs.Carried.{carried, carried_files}

-- there is a file at the path or above it, so there can be no directory
abbrev pub has_file_upward : FileMap → List ℕ → Bool
has_file_upward files path = is_some (file_at files path) || has_file_above files path

-- why there is no directory at the old path: a directory has files below it
abbrev pub source_fault : FileMap → List ℕ → Option ChangeFault
source_fault files old =
    if has_file_upward files old then Some NotADirectory else
    if has_file_below files old then None else Some NoEntry

-- why no directory can be put at the new path: nothing may be there
abbrev pub free_fault : FileMap → List ℕ → Option ChangeFault
free_fault files new =
    if has_file_upward files new then Some NotADirectory else
    if has_file_below files new then Some IsADirectory else None

-- some file below the old path would get an invalid path below the new one
abbrev pub breaks_a_path : FileMap → List ℕ → List ℕ → Bool
breaks_a_path files old new = list_any (λ p. lies_below p old && is_some (path_fault (carried old new p))) (paths files)

-- why the directory at the old path cannot be put at the new one; a directory above the
-- old one is not free
abbrev pub target_fault : FileMap → List ℕ → List ℕ → Option ChangeFault
target_fault files old new =
    if lies_below new old then Some IntoItself else
    option_or (free_fault files new) (if breaks_a_path files old new then Some PathTooLong else None)

-- why a directory cannot be renamed: the old path is checked first. A directory may be
-- renamed to itself
abbrev pub rename_dir_fault : FileMap → List ℕ → List ℕ → Option ChangeFault
rename_dir_fault files old new = option_or (source_fault files old) (if same_bytes old new then None else target_fault files old new)

-- the files after a rename that is not refused
abbrev pub dir_renamed : FileMap → List ℕ → List ℕ → FileMap
dir_renamed files old new = if same_bytes old new then files else carried_files files old new
