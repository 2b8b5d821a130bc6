-- The unsettled paths, entry by entry.
use Rattle.std.specs.Prelude.{ℕ, Bool, false, if◌then◌else◌, ◌&&◌, ◌||◌, List, Some, None, is_some}
use Rattle.std.specs.FinMap as fin
use Rattle.eden_ids.specs.Paths.{lies_below}
use Rattle.eden_ids.specs.FileMaps.{FileMap, PathSet, file_at}
use Rattle.eden_overlay.specs.Carried.{carried}
use Rattle.eden_renames.specs.Renames.{Entry, is_path}

-- a file is seen there, and it is a path
abbrev pub is_shown : FileMap → List ℕ → Bool
is_shown seen path = is_path path && is_some (file_at seen path)

abbrev pub put_if : Bool → PathSet → List ℕ → PathSet
put_if shown set path = if shown then fin.insert set path tt else set

-- a file of the commit is below the directory
abbrev pub own_below : FileMap → List ℕ → List ℕ → Bool
own_below files dir path = lies_below path dir && is_some (file_at files path)

-- a file is seen below the directory where one is at the same place below its source
abbrev pub seen_below : FileMap → FileMap → Entry → List ℕ → Bool
seen_below files seen (dir, None) path = false
seen_below files seen (dir, Some source) path = lies_below path dir && (is_shown seen path && is_some (file_at files (carried dir source path)))

abbrev pub is_unsettled_by : FileMap → FileMap → List ℕ → Entry → Bool
is_unsettled_by files seen path e = own_below files e.0 path || seen_below files seen e path
