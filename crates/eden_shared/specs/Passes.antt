-- What a caller's pass is, and what passes count together.
use Rattle.std.specs.Prelude.{ℕ, ◌+◌, List, [], ◌∷◌}

-- which caller it is, and how many calls are counted by it
pub record PassView : Type 0 where
  pub caller : ℕ
  pub amount : ℕ

-- how many calls all these passes count
abbrev pub made_by : List PassView → ℕ
made_by [] = 0
made_by (pass ∷ passes) = pass.amount + made_by passes

-- how many passes there are, how many of them were given, how many of those came back, and how many
-- calls these count
pub record PassesView : Type 0 where
  pub most : ℕ
  pub given : ℕ
  pub back : ℕ
  pub amount : ℕ
