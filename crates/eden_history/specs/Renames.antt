-- Reading, writing, removing and renaming single files: why each is refused, and the
-- files after a rename.
use Rattle.std.specs.Prelude.{ℕ, nat_lt, if◌then◌else◌, List, length, Option, Some, None, is_some}
use Rattle.std.specs.Option.{option_or}
use Rattle.std.specs.FinMap as fin
use Rattle.eden_ids.specs.declared.content.Content.{Content}
use Rattle.eden_ids.specs.FileMaps.{FileMap, file_at, has_file_above, has_file_below}
use Rattle.eden_ids.specs.Sameness.{same_bytes}
use Rattle.eden_history.specs.declared.change.ChangeFault.{ChangeFault}
use Rattle.eden_history.specs.declared.change.ChangeFault.TheVariants.{NotADirectory, IsADirectory, NoEntry, TooLarge}

-- why there can be no file at a path: one of its directories is a file, or it is a
-- directory itself
abbrev pub place_fault : FileMap → List ℕ → Option ChangeFault
place_fault files path =
    if has_file_above files path then Some NotADirectory else
    if has_file_below files path then Some IsADirectory else None

-- why there is no file at a path to be read, removed or renamed
abbrev pub absent_fault : FileMap → List ℕ → Option ChangeFault
absent_fault files path = option_or (place_fault files path) (if is_some (file_at files path) then None else Some NoEntry)

-- why these bytes cannot be written at a path; a file holds at most 8 MiB
abbrev pub write_fault : FileMap → List ℕ → List ℕ → Option ChangeFault
write_fault files path bytes = option_or (place_fault files path) (if nat_lt 8388608 (length bytes) then Some TooLarge else None)

-- why a file cannot be renamed: the old path is checked first. A file may be renamed to
-- itself; else a file must be possible at the new path, by the files before the change
abbrev pub rename_fault : FileMap → List ℕ → List ℕ → Option ChangeFault
rename_fault files old new = option_or (absent_fault files old) (if same_bytes old new then None else place_fault files new)

-- the files without the old path, and with its file at the new one
abbrev pub moved : FileMap → List ℕ → List ℕ → Option Content → FileMap
moved files old new None = files
moved files old new (Some file) = fin.insert (fin.remove files old) new file

-- the files after a rename that is not refused
abbrev pub renamed : FileMap → List ℕ → List ℕ → FileMap
renamed files old new = if same_bytes old new then files else moved files old new (file_at files old)
