-- What passes count together.
use Rattle.std.proofs.Common.{◌≡◌, ◌+◌, List, [], ◌∷◌, ◌++◌, arith}
use Rattle.eden_shared.specs.Passes.{PassView, made_by}

pub made_by_snoc : (passes : List PassView) (pass : PassView) → made_by (passes ++ pass ∷ []) ≡ made_by passes + pass.amount
made_by_snoc [] pass = omega arith
made_by_snoc (first ∷ passes) pass = let rest = made_by_snoc passes pass in omega (arith, rest)
