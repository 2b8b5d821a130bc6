use Rattle.std.proofs.Common.{◌+◌, None, arith, subst}
use Rattle.std.specs.Option.{option_map}
use Rattle.eden_connect.specs.internal.Talks.{Leads}
use Rattle.eden_connect.proofs.Leading.{leads_more}
use Rattle.eden_connect.proofs.rounds.run_round.Goals as goal

pub returns-in-Some-2-clause-over : goal.returns-in-Some-2-clause-over
returns-in-Some-2-clause-over g c =
    let lead = subst (λ kept. Leads g.D.Dial.dials 1 (record { dial = c.loop.dial; left = None })
    (record { dial = c.retry.new.dial; left = option_map (λ link. g.D.Reader.Read.remaining link.reader) kept }) c.loop.collector c.retry.new.collector)
    c.in-Some-2.is c.in_ok-link-2.ensures in
    (c.loop.counter + 1, omega (arith, c.loop-test.true), leads_more g.D.Dial.dials _ _ _ _ _ _ _ _ c.loop.invariant lead)
