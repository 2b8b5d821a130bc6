-- The files of a directory, after the bytes that its paths begin with.
use Rattle.std.specs.Prelude.{◌≡◌, ℕ, Bool, List, [], ◌∷◌, ◌++◌, map, filter, Option, Some, None}
use Rattle.eden_ids.specs.declared.id.Id.{Id}
use Rattle.eden_ids.specs.Paths.{lies_below}
use Rattle.eden_objects.specs.Objects.{Held}
use Rattle.eden_objects.specs.Commits.{Row, tree_rows}
use Rattle.eden_objects.specs.Closed.{HasTree}

-- a row whose path comes after some bytes
abbrev pub behind : List ℕ → Row → Row
behind front row = (front ++ row.0, row.1, row.2)

-- the wanted rows of a directory, after the bytes that its paths begin with
abbrev pub rows_behind : (List ℕ → Bool) → List ℕ → List Row → List Row
rows_behind test front rows = filter (λ row. test row.0) (map (behind front) rows)

-- the rows of a directory, if there is one
abbrev pub then_rows : (Id → List Row) → Option Id → List Row
then_rows rows None = []
then_rows rows (Some child) = rows child

-- the files of a tree below a path
abbrev pub rows_below : List Held → Id → List ℕ → List Row
rows_below held tree path = filter (λ row. lies_below row.0 path) (tree_rows held tree)

-- they are those of the directory that is there, if one is
abbrev pub IsBelow : List Held → Id → List ℕ → Option Id → Type 0
IsBelow held tree path None = rows_below held tree path ≡ []
IsBelow held tree path (Some dir) = HasTree held dir × (rows_below held tree path ≡ map (behind (path ++ 47 ∷ [])) (tree_rows held dir))
