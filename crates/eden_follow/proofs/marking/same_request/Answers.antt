use Rattle.std.proofs.lemmas.Bool.Decides.{Decides-at}
use Rattle.eden_messages.proofs.Alike.{request_decides}
use Rattle.eden_follow.proofs.marking.same_request.Goals as goal

pub returns : goal.returns
returns c = Decides-at _ _ c.eq.ensures (request_decides c.args.one.now c.args.other.now)
