use Rattle.std.proofs.Common.{rules, All, subst}
use Rattle.std.proofs.lemmas.List.{take_all}
use Rattle.std.proofs.lemmas.List.Elements.{All-more}
use Rattle.eden_demo.specs.Followings.{HasFollowed}
use Rattle.eden_demo.proofs.judging.have_followed.Goals as goal

pub loop-follower-preserved : goal.loop-follower-preserved
loop-follower-preserved c =
    All-more (HasFollowed c.args.logs.now c.args.mount.now) c.args.followers.now c.loop-follower.follower-index c.follower-item.result
    c.loop-follower-test.true c.loop-follower.invariant (search rules)

pub returns : goal.returns
returns c _ =
    subst (All (HasFollowed c.args.logs.now c.args.mount.now))
    (take_all c.loop-follower.follower-index c.args.followers.now (search rules))
    c.loop-follower.invariant
