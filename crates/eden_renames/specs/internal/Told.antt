-- The results of look-ups in renamed directories.
use Rattle.std.specs.Prelude.{ℕ, if◌then◌else◌, nat_eq, List, take, Option, Some, None}
use Rattle.std.specs.List.{slice_index_or}
use Rattle.std.specs.FinMap as fin
use Rattle.std.specs.Borrow.{Bor}
use Rattle.eden_renames.specs.Renames.{Entry, Renames}

-- the entry of the directory that ends before a slash of a path
abbrev pub said_before : Renames → List ℕ → ℕ → Option (Option (List ℕ))
said_before renames path at = if nat_eq (slice_index_or path at 0) 47 then fin.get renames (take at path) else None

-- the directory above the path that ends at an index, and its entry
abbrev pub entry_told : List ℕ → Option (ℕ × Bor (Option (List ℕ))) → Option Entry
entry_told path None = None
entry_told path (Some found) = Some (take found.0 path, found.1.now)
