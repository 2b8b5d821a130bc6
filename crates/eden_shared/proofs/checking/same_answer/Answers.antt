use Rattle.std.proofs.lemmas.Bool.Decides.{Decides-at}
use Rattle.eden_logs.proofs.Alike.{answer_decides}
use Rattle.eden_shared.proofs.checking.same_answer.Goals as goal

pub returns : goal.returns
returns c = Decides-at _ _ c.eq.ensures (answer_decides c.args.one.now c.args.other.now)
