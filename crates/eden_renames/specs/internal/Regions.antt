-- The files below one directory of a commit, where they are seen.
use Rattle.std.specs.Prelude.{ℕ, Bool, false, not, ◌&&◌, ◌||◌, nat_lt, List, length, Option, Some, None}
use Rattle.std.specs.List.{list_any}
use Rattle.std.specs.FinMap as fin
use Rattle.eden_ids.specs.FileMaps.{FileMap, paths}
use Rattle.eden_ids.specs.Paths.{lies_below}
use Rattle.eden_objects.specs.Passing.{told}
use Rattle.eden_renames.specs.Renames.{Entry, Renames, nearest, source_dir}

-- the entry's directory is longer than this many bytes
abbrev pub is_past : ℕ → Option Entry → Bool
is_past long None = false
is_past long (Some e) = nat_lt long (length e.0)

-- what is below a directory of this many bytes and is not seen by it, or is passed over
abbrev pub is_apart : Renames → ℕ → (List ℕ → Bool) → List ℕ → Bool
is_apart renames long passes path = passes path || is_past long (nearest (fin.entries renames) path)

-- a file below a directory of the commit that is not passed over where it is seen
abbrev pub region_has : (List ℕ → Bool) → FileMap → Option (List ℕ) → List ℕ → Bool
region_has passes files None top = false
region_has passes files (Some source) top = list_any (λ p. lies_below p source && not (passes (told source top p))) (paths files)

-- a file that a directory itself shows and that is not passed over
abbrev pub has_own : (List ℕ → Bool) → FileMap → Renames → List ℕ → Bool
has_own passes files renames dir = region_has (is_apart renames (length dir) passes) files (source_dir renames dir) dir
