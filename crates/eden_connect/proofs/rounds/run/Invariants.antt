use Rattle.std.proofs.Common.{None}
use Rattle.std.specs.Option.{option_map}
use Rattle.eden_connect.specs.Connections.{FollowsOver}
use Rattle.eden_connect.proofs.rounds.run.Given as goal

-- the mirror has had this number of rounds
abbrev pub invariant-loop : goal.invariant-loop
invariant-loop g l = FollowsOver g.D.Dial.dials l.counter (record { dial = l.initial.dial; left = None })
    (record { dial = l.dial; left = option_map (λ link. g.D.Reader.Read.remaining link.reader) l.link }) l.initial.collector l.collector
