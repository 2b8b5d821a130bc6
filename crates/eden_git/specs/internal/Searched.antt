-- What a search among the entries of a tree looks for.
use Rattle.std.specs.Prelude.{ℕ, Bool, false, if◌then◌else◌, List, [], ◌∷◌, Option, Some, None}
use Rattle.std.specs.Ordering.{nat_cmp, is_lt}
use Rattle.std.specs.Cmp.Lexicographic.{slice_cmp}
use Rattle.eden_git.specs.Trees.{Entry, key}

abbrev pub is_before : List ℕ → Option Entry → Bool
is_before wanted None = false
is_before wanted (Some e) = is_lt (slice_cmp nat_cmp (key e) wanted)

-- the first entry that doesn't come before a key
abbrev pub first_from : List ℕ → List Entry → Option Entry
first_from wanted [] = None
first_from wanted (e ∷ es) = if is_before wanted (Some e) then first_from wanted es else Some e
