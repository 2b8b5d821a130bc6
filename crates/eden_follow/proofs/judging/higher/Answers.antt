use Rattle.std.proofs.Common.{◌≡◌, true, false}
use Rattle.eden_follow.proofs.Judged.{kept, raised}
use Rattle.eden_follow.proofs.judging.higher.Goals as goal

pub returns-then-is_above : goal.returns-then-is_above
returns-then-is_above c = λ tickets is. raised tickets c.args.highest c.args.ticket (c.is_above.ensures.0 c.if-is_above.true) is

pub returns : goal.returns
returns c =
    λ tickets is. kept tickets c.args.highest c.args.ticket (λ up. let above : c.is_above.result ≡ true = c.is_above.ensures.1 up in let below : c.is_above.result ≡ false = c.if-is_above.false in cc (above, below)) is
