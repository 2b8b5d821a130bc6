-- At which place of entries in byte order of their paths that of a path is.
use Rattle.std.specs.Prelude.{ℕ, suc, if◌then◌else◌, List, [], ◌∷◌}
use Rattle.std.specs.Ordering.{is_lt}
use Rattle.eden_overlay.specs.Layers.{by_bytes}

-- how many entries at the front have lesser paths
abbrev pub place : {X : Type 0} → List ℕ → List (List ℕ × X) → ℕ
place path [] = 0
place path (e ∷ es) = if is_lt (by_bytes e.0 path) then suc (place path es) else 0
