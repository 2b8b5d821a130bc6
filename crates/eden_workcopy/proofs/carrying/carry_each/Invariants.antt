use Rattle.std.specs.Vec.Iter.{into_iter_items}
use Rattle.eden_workcopy.proofs.CarriedOver.{Carrying}
use Rattle.eden_workcopy.proofs.carrying.carry_each.Given as goal

abbrev pub invariant-loop-path : goal.invariant-loop-path
invariant-loop-path g l =
    Carrying (g.B.FileTree.files l.base) l.old l.new l.fn.overlay l.fn.moved.items l.overlay (into_iter_items l.path-iterator)
