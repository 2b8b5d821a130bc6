-- Paths that can be searched quickly, and those of a file map that are not among them.
use Rattle.std.specs.Prelude.{◌≡◌, ℕ, Bool, not, ◌&&◌, List, Option, Some, None}
use Rattle.std.specs.Ordering.{nat_cmp}
use Rattle.std.specs.Cmp.Lexicographic.{slice_cmp}
use Rattle.std.specs.List.Sorted.{IsStrictlySortedBy}
use Rattle.eden_ids.specs.Paths.{lies_below}
use Rattle.eden_messages.specs.Mirrors.{distinct, is_among}

-- they ascend, or are in a table
abbrev pub IsFound : List (List ℕ) → Option (List (List ℕ)) → Type 0
IsFound paths None = IsStrictlySortedBy (slice_cmp nat_cmp) paths
IsFound paths (Some table) = table ≡ distinct paths

-- the path is below the directory and is not listed
abbrev pub is_unlisted : List ℕ → List (List ℕ) → List ℕ → Bool
is_unlisted prefix listed path = lies_below path prefix && not (is_among path listed)
