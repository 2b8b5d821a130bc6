use Rattle.std.proofs.Common.{None}
use Rattle.std.specs.Option.{option_map}
use Rattle.eden_messages.specs.Mirrors.{begun}
use Rattle.eden_connect.specs.internal.Talks.{Leads}
use Rattle.eden_connect.proofs.rounds.run_round.Given as goal

-- this many connections were asked for, and none is left
abbrev pub invariant-loop : goal.invariant-loop
invariant-loop g l = Leads g.D.Dial.dials l.counter
    (record { dial = l.fn.dial; left = option_map (λ link. g.D.Reader.Read.remaining link.reader) l.fn.link })
    (record { dial = l.dial; left = None }) (begun l.fn.collector) l.collector
