use Rattle.std.proofs.Common.{arith}
use Rattle.eden_globs.proofs.Splitting.{behind_slash, no_slash}
use Rattle.eden_globs.proofs.pattern.cut.Goals as goal

pub returns-then-bytes-at-eq47-clause-parts : goal.returns-then-bytes-at-eq47-clause-parts
returns-then-bytes-at-eq47-clause-parts c =
    behind_slash c.args.bytes.now c.loop-at.at (omega arith) c.loop-at.invariant.none (grind (arith, c.if-bytes-at-eq47.true))

pub returns-clause-parts : goal.returns-clause-parts
returns-clause-parts c = no_slash c.args.bytes.now (λ i low. c.loop-at.invariant.none i (omega arith))
