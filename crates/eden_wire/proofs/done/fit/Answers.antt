use Rattle.std.proofs.Common.{arith}
use Rattle.eden_wire.proofs.DoneLaws.{long_front}
use Rattle.eden_wire.proofs.done.fit.Goals as goal

pub returns-then-len-gt-BODY_LIMIT : goal.returns-then-len-gt-BODY_LIMIT
returns-then-len-gt-BODY_LIMIT c =
    long_front c.loop-path.path-index c.args.conflicts.now c.path-item.result (omega arith) c.path-item.is
    (omega (arith, c.loop-path.invariant.0, c.len_of_path-len.ensures.len, c.if-len-gt-BODY_LIMIT.true))
