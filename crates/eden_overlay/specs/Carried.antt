-- The files after the rename of a directory, by the file map alone. Files below the new
-- path before are replaced.
use Rattle.std.specs.Prelude.{ℕ, Bool, if◌then◌else◌, List, ◌++◌, drop, length, map, Option, None, is_some}
use Rattle.eden_ids.specs.declared.content.Content.{Content}
use Rattle.eden_ids.specs.Paths.{lies_below, path_fault}
use Rattle.eden_ids.specs.FileMaps.{FileMap, file_at, paths, tabulate}

-- the place below the new path that a path has below the old one
abbrev pub carried : List ℕ → List ℕ → List ℕ → List ℕ
carried old new path = new ++ drop (length old) path

-- a path below the old one would be invalid below the new one
abbrev pub breaks : List ℕ → List ℕ → List ℕ → Bool
breaks old new path = is_some (path_fault (carried old new path))

-- a path below the new directory has the file from the same place below the old one; else
-- a path below the old one has none; any other path keeps its file
abbrev pub carried_rule : FileMap → List ℕ → List ℕ → List ℕ → Option Content
carried_rule files old new path =
    if lies_below path new then file_at files (carried new old path) else
    if lies_below path old then None else file_at files path

unfoldable pub carried_files : FileMap → List ℕ → List ℕ → FileMap
carried_files files old new = tabulate (paths files ++ map (carried old new) (paths files)) (carried_rule files old new)
