-- The files after the rename of a directory, put together file by file.
use Rattle.std.specs.Prelude.{◌≡◌, ◌&&◌, ℕ, Bool, if◌then◌else◌, is_some, List, Option, Some, None}
use Rattle.std.specs.FinMap as fin
use Rattle.eden_ids.specs.declared.content.Content.{Content}
use Rattle.eden_ids.specs.Paths.{lies_below, path_fault}
use Rattle.eden_ids.specs.FileMaps.{FileMap}
use Rattle.eden_history.specs.declared.change.Change.{Change}
use Rattle.eden_history.specs.declared.change.Change.TheVariants.{RenameDir}
use Rattle.eden_overlay.specs.Carried.{carried}
use Rattle.eden_history.specs.DirRenames.{rename_dir_fault}

-- the path is one of those that move, and would be none where it went
abbrev pub breaks : List ℕ → List ℕ → List ℕ → Bool
breaks old new path = lies_below path old && is_some (path_fault (carried old new path))

-- the map with the file of one path more: at its place below the new path, and nowhere where it
-- was below that path before
abbrev pub carried_onto : FileMap → List ℕ → List ℕ → List ℕ → Option Content → FileMap
carried_onto next old new path None = next
carried_onto next old new path (Some file) =
    if lies_below path old then fin.insert next (carried old new path) file else
    if lies_below path new then next else fin.insert next path file

-- where the change renames a directory, nothing refuses it over these files
abbrev pub MayMove : FileMap → Change → Type 0
MayMove files (RenameDir old new) = rename_dir_fault files old new ≡ None
MayMove files change = Unit {0}
