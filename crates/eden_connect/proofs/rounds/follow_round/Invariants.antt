use Rattle.eden_connect.specs.internal.Talks.{Hears}
use Rattle.eden_connect.proofs.rounds.follow_round.Given as goal

-- replies came over the connection to the mirror
abbrev pub invariant-loop : goal.invariant-loop
invariant-loop g l = Hears (g.I.Read.remaining l.initial.link.reader) (g.I.Read.remaining l.link.reader) l.initial.collector l.collector
