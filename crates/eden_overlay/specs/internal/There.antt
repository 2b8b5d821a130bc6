-- What a look at one place of some entries says.
use Rattle.std.specs.Prelude.{◌≡◌, ◌≢◌, ℕ, Bool, true, false, List, Some}
use Rattle.std.specs.List.{slice_get}

-- whether the entry at a place is that of a path
abbrev pub IsThere : {X : Type 0} → Bool → List ℕ → List (List ℕ × X) → ℕ → Type 0
IsThere {X} true path es at = (value : X) × (slice_get es at ≡ Some (path, value))
IsThere {X} false path es at = (value : X) → slice_get es at ≢ Some (path, value)
