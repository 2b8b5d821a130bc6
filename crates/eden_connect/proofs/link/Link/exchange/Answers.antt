use Rattle.std.proofs.Common.{subst}
use Rattle.eden_connect.specs.Connections.{Receives}
use Rattle.eden_connect.proofs.Exchanging.{exchanging_more, exchanging_none}
use Rattle.eden_connect.proofs.link.Link.exchange.Goals as goal

pub loop-init : goal.loop-init
loop-init g c = rw c.new-window.ensures (exchanging_none _ _ _ _)

pub loop-preserved : goal.loop-preserved
loop-preserved g c =
    let came = subst (λ r. Receives (g.I.Read.remaining r) (g.I.Read.remaining c.read_reply.new.reader) c.in_ok-reply.reply) c.in_ok-unsent.ensures.unread c.in_ok-reply.ensures in
    rw c.remove_first.ensures
    (exchanging_more _ _ _ _ _ _ _ _ _ _ _ _ _ _ _ _ _ _ c.loop.invariant c.loop-test.true c.in_ok-unsent.ensures.sent came c.in_ok-counted.ensures.taken
    c.in_ok-counted.ensures.told)
