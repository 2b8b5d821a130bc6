use Rattle.std.proofs.Common.{◌-◌, arith}
use Rattle.eden_globs.proofs.Ends.{behind_last, only_name}
use Rattle.eden_globs.proofs.matching.last_name.Goals as goal

pub returns-then-path-at-eq47 : goal.returns-then-path-at-eq47
returns-then-path-at-eq47 c =
    behind_last c.args.path.now (c.loop-at.at - 1) (omega arith) (grind (arith, c.if-path-at-eq47.true)) (λ i high low. c.loop-at.invariant.none i (omega (arith, high)) low)

pub returns : goal.returns
returns c = only_name c.args.path.now (λ i low. c.loop-at.invariant.none i (omega arith) low)
