use Rattle.std.proofs.Common.{◌≡◌, None, arith, refl, rules, subst}
use Rattle.std.specs.Option.{option_map}
use Rattle.eden_connect.specs.Connections.{FollowsOver}
use Rattle.eden_connect.proofs.Following.{follows_has_number}
use Rattle.eden_connect.proofs.Leading.{cut_off, follows_over_more, follows_over_none}
use Rattle.eden_connect.proofs.rounds.run.Goals as goal

pub loop-init : goal.loop-init
loop-init g c = follows_over_none g.D.Dial.dials _ _

pub run_round-requires : goal.run_round-requires
run_round-requires g c = follows_has_number _ _ _ c.loop.invariant.followed (omega (arith, c.requires, c.loop-test.true))

pub loop-preserved : goal.loop-preserved
loop-preserved g c =
    let over = c.in_ok-run_round.ensures.over in
    follows_over_more g.D.Dial.dials _ over.0 _ _ _ _ _ _ _ c.loop.invariant over.1 over.2 refl

pub returns-in_err-run_round-clause-cut_off : goal.returns-in_err-run_round-clause-cut_off
returns-in_err-run_round-clause-cut_off g c = λ is.
    cut_off g.D.Dial.dials _ _ _ _ _ _ _ _ c.loop.invariant c.loop-test.true (c.in_err-run_round.ensures.spent (search rules)) refl

pub returns-clause-followed : goal.returns-clause-followed
returns-clause-followed g c =
    let end : c.loop.counter ≡ c.args.rounds = search rules in (
      option_map (λ link. g.D.Reader.Read.remaining link.reader) c.loop.link,
      subst (λ k. FollowsOver g.D.Dial.dials k (record { dial = c.args.dial.now; left = None })
          (record { dial = c.loop.dial; left = option_map (λ link. g.D.Reader.Read.remaining link.reader) c.loop.link }) c.args.collector.now c.loop.collector)
          end c.loop.invariant,
    )
