use Rattle.eden_ranges.proofs.Merged.{compared, mention_copied, none_left, path_dropped, path_moved}
use Rattle.eden_ranges.proofs.merging.merge.Goals as goal

pub loop-order-preserved-in-Continue-branch-2 : goal.loop-order-preserved-in-Continue-branch-2
loop-order-preserved-in-Continue-branch-2 c =
    path_moved (compared c.in-Some.ensures c.loop-order.invariant) c.in-Less.is c.in_ok-move_first-in-Less.ensures.added c.move_first.ensures.left

pub loop-order-preserved-in-Equal : goal.loop-order-preserved-in-Equal
loop-order-preserved-in-Equal c = path_dropped (compared c.in-Some.ensures c.loop-order.invariant) c.in-Equal.is c.pop_front.ensures.rest

pub loop-order-preserved : goal.loop-order-preserved
loop-order-preserved c =
    mention_copied (compared c.in-Some.ensures c.loop-order.invariant) c.in-Greater.is c.in_ok-copy_first-in-Greater.ensures.added c.copy_first.ensures.left

pub returns : goal.returns
returns c = none_left (compared c.in_default.ensures c.loop-order.invariant)
