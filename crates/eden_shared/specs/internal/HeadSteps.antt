-- The rule of the table that holds a head word, and what its steps show a seat. The view of a
-- seat is what it has seen.
use Rattle.std.specs.Prelude.{◌≡◌, ℕ, ◌≤◌, max, length, slice_index}
use Rattle.std.specs.List.{All}
use Rattle.atomic_table.specs.Table.{State, Me, Step}

-- a seat, of a table of numbers alone
abbrev Seated : Type 0
Seated = Me (Unit {0}) ℕ

-- there is one word, and it is at least what each seat has seen
abbrev pub IsAbove : State (Unit {0}) ℕ → Type 0
IsAbove s = (length s.words ≡ 1) × All (λ seen. seen ≤ slice_index s.words 0) s.views

-- a seat has seen the number that it finds
abbrev pub Loads : Step (Unit {0}) → Seated → ℕ → Seated → Type 0
Loads step before found after = (before.0 ≤ found) × (after.0 ≡ found) × (after.1 ≡ before.1)

-- a seat has seen the number that it raises
abbrev pub Raises : Step (Unit {0}) → Seated → ℕ → Seated → Type 0
Raises step before found after = (after.0 ≡ max before.0 step.first) × (after.1 ≡ before.1)
