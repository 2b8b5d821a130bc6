-- What the merge of two lists of files is.
use Rattle.std.specs.Prelude.{◌≡◌, ℕ, not, List, [], Some}
use Rattle.std.specs.Ordering.{nat_cmp}
use Rattle.std.specs.Cmp.Lexicographic.{slice_cmp}
use Rattle.std.specs.List.{list_any}
use Rattle.std.specs.List.Sorted.{IsStrictlySortedBy}
use Rattle.eden_ids.specs.declared.id.Id.{Id}
use Rattle.eden_ids.specs.FileMaps.{same_path}
use Rattle.eden_objects.specs.Objects.{Held}
use Rattle.eden_objects.specs.Closed.{IsClosed, AllNamed}
use Rattle.eden_objects.specs.Commits.{Row, commit_map, commit_rows, find_row}
use Rattle.eden_treediff.specs.Merges.{differences, merge_rows, paths_of, same_found}

abbrev pub Rise : List Row → Type 0
Rise rows = IsStrictlySortedBy (slice_cmp nat_cmp) (paths_of rows)

-- it has exactly the paths at which the two lists have different files
abbrev pub MergesTell : Type 0
MergesTell = (rs ss : List Row) → Rise rs → Rise ss → (p : List ℕ) → list_any (λ q. same_path p q) (merge_rows rs ss) ≡ not (same_found (find_row p rs) (find_row p ss))

-- it ascends in byte order
abbrev pub MergesRise : Type 0
MergesRise = (rs ss : List Row) → Rise rs → Rise ss → IsStrictlySortedBy (slice_cmp nat_cmp) (merge_rows rs ss)

-- no list differs from itself
abbrev pub SameMerge : Type 0
SameMerge = (rs : List Row) → merge_rows rs rs ≡ []

-- the merge of the files of two commits is the difference of their maps, in a store whose
-- ids a naming gives
abbrev pub MergesAreDifferences : Type 0
MergesAreDifferences = (name : List ℕ → List ℕ → Id) (held : List Held) → IsClosed held → AllNamed name held → (first second : Id) (rs ss : List Row)
    → commit_rows held first ≡ Some rs → commit_rows held second ≡ Some ss
    → differences (commit_map held first) (commit_map held second) ≡ Some (merge_rows rs ss)
