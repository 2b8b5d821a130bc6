use Rattle.std.proofs.lemmas.Bool.Decides.{Decides-at}
use Rattle.eden_logs.proofs.Alike.{call_decides}
use Rattle.eden_shared.proofs.checking.same_call.Goals as goal

pub returns : goal.returns
returns c = Decides-at _ _ c.eq.ensures (call_decides c.args.one.now c.args.other.now)
