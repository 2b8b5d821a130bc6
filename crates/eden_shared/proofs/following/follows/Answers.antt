use Rattle.eden_shared.proofs.Followed.{head_holds}
use Rattle.eden_shared.proofs.following.follows.Goals as goal

pub returns-in-Ok-clause-at_head : goal.returns-in-Ok-clause-at_head
returns-in-Ok-clause-at_head g c =
    head_holds g.N.Naming.id c.args.audited.now c.args.logs.now c.args.follower.now.mirror c.args.follower.now.notes c.opening_law.ensures c.mount.ensures.history
    c.in_default.ensures.agree c.in-Ok.ensures.merges
