-- What a caller sees of a seat.
use Rattle.std.specs.Prelude.{ℕ}
use Rattle.atomic_table.specs.Seated.{TableId}

-- the word that the seat belongs to, and the greatest number that the seat has loaded or raised
-- there
pub record SeatView : Type 0 where
  pub word : TableId
  pub seen : ℕ
