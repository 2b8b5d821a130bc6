use Rattle.eden_overlay.proofs.Turns.{compared, mark_added, none_left, path_dropped, path_moved}
use Rattle.eden_overlay.proofs.weaving.weave.Goals as goal

pub loop-order-preserved-in-Continue-branch-2 : goal.loop-order-preserved-in-Continue-branch-2
loop-order-preserved-in-Continue-branch-2 g c =
    path_moved (compared c.front.result c.first.result c.front.ensures.item c.first.ensures c.in-Some.ensures c.loop-order.invariant)
    c.in-Less.is c.in_ok-move_first-in-Less.ensures.added c.move_first.ensures.left

pub loop-order-preserved-in-Equal : goal.loop-order-preserved-in-Equal
loop-order-preserved-in-Equal g c =
    path_dropped (compared c.front.result c.first.result c.front.ensures.item c.first.ensures c.in-Some.ensures c.loop-order.invariant)
    c.in-Equal.is c.pop_front.ensures.rest

pub loop-order-preserved : goal.loop-order-preserved
loop-order-preserved g c =
    mark_added (compared c.front.result c.first.result c.front.ensures.item c.first.ensures c.in-Some.ensures c.loop-order.invariant)
    c.in-Greater.is c.in_ok-add_first-in-Greater.ensures.added c.in_ok-add_first-in-Greater.ensures.left

pub returns : goal.returns
returns g c = none_left (compared c.front.result c.first.result c.front.ensures.item c.first.ensures c.in_default.ensures c.loop-order.invariant)
