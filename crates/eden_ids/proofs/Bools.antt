-- A law of "or" that the standard library lacks.
use Rattle.std.proofs.Common.{◌≡◌, Bool, true, false, ◌||◌, refl}

-- the first two of three in each other's place
pub or_turned : (a b c : Bool) → (a || (b || c)) ≡ (b || (a || c))
or_turned true true c = refl
or_turned true false c = refl
or_turned false b c = refl
