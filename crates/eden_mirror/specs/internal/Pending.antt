-- The table of the paths of a round, of which some are answered.
use Rattle.std.specs.Prelude.{◌≡◌, ℕ, Bool, false, cond, List, [], ◌∷◌, length, map}
use Rattle.std.specs.Map.{keys_of}
use Rattle.std.specs.List.{IsDistinct}
use Rattle.eden_ids.specs.Sameness.{same_bytes}
use Rattle.eden_ids.specs.FileMaps.{same_path}

-- the paths that are not answered, in the table's order
abbrev pub pending : List (List ℕ × Bool) → List (List ℕ)
pending [] = []
pending (e ∷ es) = cond e.1 (pending es) (e.0 ∷ pending es)

-- no path is in the list twice
abbrev pub AreDistinct : List (List ℕ) → Type 0
AreDistinct ps = IsDistinct same_path ps

-- no path is in the table twice, and this many are not answered
pub record IsCounted (left : ℕ) (es : List (List ℕ × Bool)) : Type 0 where
  pub distinct : IsDistinct same_bytes (keys_of es)
  pub count : left ≡ length (pending es)

-- a table of these paths, none of them answered
abbrev pub fresh : List (List ℕ) → List (List ℕ × Bool)
fresh ps = map (λ p. (p, false)) ps
