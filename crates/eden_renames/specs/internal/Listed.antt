-- The paths that are listed of one directory, where its files are seen.
use Rattle.std.specs.Prelude.{◌≡◌, ℕ, Bool, not, ◌||◌, List, [], map, filter, length, Some, None}
use Rattle.std.specs.List.{list_any}
use Rattle.std.specs.List.Sorted.{IsSortedBy}
use Rattle.std.specs.Ordering.{is_lt}
use Rattle.std.specs.FinMap as fin
use Rattle.eden_globs.specs.Filters.{Patterns}
use Rattle.eden_ids.specs.Paths.{lies_below}
use Rattle.eden_ids.specs.FileMaps.{FileMap, paths, same_path}
use Rattle.eden_objects.specs.Passing.{is_shown, told}
use Rattle.eden_renames.specs.Renames.{Entry, Renames, by_bytes, is_path, source_dir}
use Rattle.eden_renames.specs.internal.Regions.{is_apart}

abbrev pub is_pathless : List ℕ → Bool
is_pathless bytes = not (is_path bytes)

-- the files below the commit's directory that is seen at one, at the paths where they are seen:
-- those that are seen by it, at paths that a filter admits
abbrev pub shown_by : FileMap → Renames → Patterns → Entry → List (List ℕ)
shown_by files renames patterns (top, None) = []
shown_by files renames patterns (top, Some source) =
    filter (is_shown (is_apart renames (length top) is_pathless) patterns) (map (told source top) (filter (λ p. lies_below p source) (paths files)))

-- the files that a directory itself shows
abbrev pub list_own : FileMap → Renames → Patterns → List ℕ → List (List ℕ)
list_own files renames patterns dir = shown_by files renames patterns (dir, source_dir renames dir)

abbrev pub is_listed : List (List ℕ) → List ℕ → Bool
is_listed ps path = list_any (λ q. same_path path q) ps

-- no path comes in byte order before the one ahead of it
abbrev pub AreInOrder : List (List ℕ) → Type 0
AreInOrder ps = IsSortedBy (λ one other. is_lt (by_bytes one other)) ps

-- what is kept at paths, with more at those that pass a test
abbrev pub IsWith : {X : Type 0} → (List ℕ → Bool) → fin.FinMap by_bytes X → fin.FinMap by_bytes X → Type 0
IsWith test kept next = (path : List ℕ) → fin.contains_key next path ≡ (fin.contains_key kept path || test path)
