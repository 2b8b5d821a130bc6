-- The columns of two directories with the same names: the rows at which the entries
-- differ. A row is an index into a list, counted from 0.
use Rattle.std.specs.Prelude.{◌≡◌, ℕ, ◌+◌, ◌≤◌, List, [], ◌∷◌, drop, length, nat_eq, nat_lt, if◌then◌else◌, Option, Some, None, IfSome}
use Rattle.eden_ids.specs.Sameness.{same_id}
use Rattle.eden_lanes.specs.Rows.{differ_from}
use Rattle.eden_git.specs.Trees.{Entry}
use Rattle.eden_git.specs.Columns.{ids_of, kinds_of, names_of}
use Rattle.eden_treediff.specs.declared.side.Side.{Side}
use Rattle.eden_treediff.specs.declared.changed.Changed.{Changed}

-- the entries have the same names, and these are the rows, counted from a first one, at
-- which the ids and the kinds differ
abbrev pub AreChanges : ℕ → List ℕ → List ℕ → List Entry → List Entry → Type 0
AreChanges row ids kinds es fs = (names_of es ≡ names_of fs)
    × (ids ≡ differ_from same_id row (ids_of es) (ids_of fs)) × (kinds ≡ differ_from nat_eq row (kinds_of es) (kinds_of fs))

abbrev pub Tells : Changed → ℕ → List Entry → List Entry → Type 0
Tells changed row es fs = AreChanges row changed.ids changed.kinds es fs

-- the first of some rows, or else their end
abbrev pub first_row : List ℕ → ℕ → ℕ
first_row [] end = end
first_row (n ∷ ns) end = n

-- the rows after this one, if it is the first
abbrev pub rows_after : ℕ → List ℕ → List ℕ
rows_after row [] = []
rows_after row (n ∷ ns) = if nat_eq n row then ns else n ∷ ns

-- the entries of a directory; a missing directory has none
abbrev pub entries_lent : Option (List Entry) → List Entry
entries_lent None = []
entries_lent (Some es) = es

-- the rest of a side
abbrev pub rest_of : Side → List Entry
rest_of side = drop side.row (entries_lent side.rows)

-- its end is where the entries end
abbrev pub IsAhead : Side → Type 0
IsAhead side = (side.end ≡ length (entries_lent side.rows)) × (side.row ≤ side.end)

-- the side after its next entry
abbrev pub passed : Side → Side
passed side = record { rows = side.rows; row = if nat_lt side.row side.end then side.row + 1 else side.row; end = side.end }

-- if it is known which rows of the rest differ, the sides are at the same row
abbrev pub AreTold : Option Changed → Side → Side → Type 0
AreTold changed left right = IfSome changed (λ c. (right.row ≡ left.row) × Tells c left.row (rest_of left) (rest_of right))
