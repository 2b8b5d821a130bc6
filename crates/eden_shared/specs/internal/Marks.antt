-- Marks, one for each ticket of a history.
use Rattle.std.specs.Prelude.{ℕ, zero, suc, Bool, false, List, IsTrue, Contains, slice_index_or}

abbrev pub is_marked : List Bool → ℕ → Bool
is_marked marks zero = false
is_marked marks (suc place) = slice_index_or marks place false

-- the marked tickets are these
pub record Marks (marks : List Bool) (tickets : List ℕ) : Type 0 where
  pub there : (ticket : ℕ) → IsTrue (is_marked marks ticket) → Contains tickets ticket
  pub marked : (ticket : ℕ) → Contains tickets ticket → IsTrue (is_marked marks ticket)
