use Rattle.std.proofs.Common.{◌∙◌, ap, rules}
use Rattle.eden_messages.specs.Mirrors.{outstanding_of}
use Rattle.eden_connect.proofs.Exchanging.{ended_idle, ended_vain, exchanges_heard}
use Rattle.eden_connect.proofs.Following.{hears_more}
use Rattle.eden_connect.proofs.rounds.follow_round.Goals as goal
use Rattle.eden_connect.proofs.rounds.follow_round.Goals.{then-not-counted-via-then-not-counted, then-not-counted-via-else-not-counted+then-is_idle}

pub returns-in_err-counted-clause-heard : goal.returns-in_err-counted-clause-heard
returns-in_err-counted-clause-heard g c =
    let some = c.exchange.ensures.heard in
    (some.0, hears_more _ _ _ _ _ _ c.loop.invariant some.1)

pub returns-then-not-counted-clause-ended : goal.returns-then-not-counted-clause-ended
returns-then-not-counted-clause-ended g c =
    let asked = c.as_slice.ensures.value ∙ c.in_ok-requests.ensures ∙ ap outstanding_of c.mirror.ensures in
    let heard = hears_more _ _ _ _ _ _ c.loop.invariant (exchanges_heard _ _ _ _ _ _ _ _ c.in_ok-counted.ensures.all) in
    elim c.then-not-counted.branch [
      | then-not-counted-via-then-not-counted w ↦ ended_vain _ _ _ _ _ _ _ _ _ _ c.loop.invariant c.in_ok-counted.ensures.all asked (search rules)
      | then-not-counted-via-else-not-counted+then-is_idle w ↦ ended_idle _ _ _ _ heard (search rules)
    ]

pub returns-then-not-counted-clause-heard : goal.returns-then-not-counted-clause-heard
returns-then-not-counted-clause-heard g c =
    (_, hears_more _ _ _ _ _ _ c.loop.invariant (exchanges_heard _ _ _ _ _ _ _ _ c.in_ok-counted.ensures.all))

pub loop-preserved : goal.loop-preserved
loop-preserved g c = hears_more _ _ _ _ _ _ c.loop.invariant (exchanges_heard _ _ _ _ _ _ _ _ c.in_ok-counted.ensures.all)
