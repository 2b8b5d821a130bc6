-- The rows of a directory, some of which are passed over, after the bytes that its paths
-- begin with.
use Rattle.std.specs.Prelude.{◌≡◌, ℕ, Bool, true, false, not, List, ◌++◌, filter, map}
use Rattle.std.specs.List.{AllByRecursion, list_any}
use Rattle.eden_ids.specs.Paths.{IsPath, lies_below}
use Rattle.eden_objects.specs.Commits.{Row}
use Rattle.eden_objects.specs.Passing.{told}
use Rattle.eden_objects.specs.internal.Below.{rows_behind}

-- there is one that is not passed over
abbrev pub any_but : (List ℕ → Bool) → List ℕ → List Row → Bool
any_but passes front rows = list_any (λ row. not (passes (front ++ row.0))) rows

-- the files that are not passed over
abbrev pub rows_but : (List ℕ → Bool) → List ℕ → List Row → List Row
rows_but passes front rows = rows_behind (λ path. not (passes path)) front rows

-- each of them has a path that is allowed
abbrev pub AreAllowedBut : (List ℕ → Type 0) → (List ℕ → Bool) → List ℕ → List Row → Type 0
AreAllowedBut allows passes front rows = AllByRecursion (λ row. passes (front ++ row.0) ≡ false → allows (front ++ row.0)) rows

-- each below a directory has a valid path, as if that were at another path
abbrev pub AreToldPaths : (List ℕ → Bool) → List ℕ → List ℕ → List Row → Type 0
AreToldPaths passes top seen rows = AllByRecursion (λ row. lies_below row.0 top ≡ true → passes (told top seen row.0) ≡ false → IsPath (told top seen row.0)) rows

-- the rows that are shown, with these paths
abbrev pub retold : List ℕ → List ℕ → Row → Row
retold top seen row = (told top seen row.0, row.1, row.2)

abbrev pub rows_shown : (List ℕ → Bool) → List ℕ → List ℕ → List Row → List Row
rows_shown shows top seen rows = filter (λ row. shows row.0) (map (retold top seen) rows)
