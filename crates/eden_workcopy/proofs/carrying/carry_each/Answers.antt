use Rattle.std.specs.Vec.Iter.{into_iter_items}
use Rattle.eden_workcopy.proofs.CarriedOver.{carrying_next}
use Rattle.eden_workcopy.proofs.carrying.carry_each.Goals as goal

pub loop-path-preserved : goal.loop-path-preserved
loop-path-preserved g c =
    carrying_next c.take.new.overlay c.set.new.self c.in-Some.path c.in_ok-place.place c.in_ok-file.file (into_iter_items c.next.new.self) c.loop-path.invariant c.in-Some.ensures.steps.0
    c.in_ok-place.ensures.accepts c.in_ok-place.ensures.place c.in_ok-file.ensures.file c.in_ok-file.ensures.files c.in_ok-set.ensures.ok
