use Rattle.eden_connect.proofs.Exchanging.{IsExchanging}
use Rattle.eden_connect.proofs.link.Link.exchange.Given as goal

-- this many of the requests are answered
abbrev pub invariant-loop : goal.invariant-loop
invariant-loop g l = IsExchanging l.window l.counter l.requests l.unsent (g.O.Write.contents l.initial.self.writer) (g.O.Write.contents l.self.writer)
    (g.I.Read.remaining l.initial.self.reader) (g.I.Read.remaining l.self.reader) l.initial.collector l.collector l.counted
