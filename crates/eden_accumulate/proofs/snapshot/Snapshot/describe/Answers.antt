use Rattle.std.proofs.Common.{arith}
use Rattle.std.specs.Vec.Iter.{into_iter_items}
use Rattle.eden_renames.specs.Renames.{at_paths}
use Rattle.eden_overlay.specs.Layers.{over}
use Rattle.eden_accumulate.specs.internal.Describing.{looked_up}
use Rattle.eden_accumulate.proofs.Describing.{none_described, one_described}
use Rattle.eden_accumulate.proofs.snapshot.Snapshot.describe.Goals as goal

pub loop-path-preserved : goal.loop-path-preserved
loop-path-preserved g c =
    one_described (looked_up g.N.Naming.id (over (at_paths c.args.base.now) c.args.self.now.overlay)) c.loop-path.files.items c.add_described.new.files.items c.in-Some.path
    (into_iter_items c.next.new.self) (into_iter_items c.loop-path.path-iterator) _ c.in-Some.ensures.steps.0 c.in_ok-add_described.ensures c.loop-path.invariant

pub returns : goal.returns
returns g c =
    none_described (looked_up g.N.Naming.id (over (at_paths c.args.base.now) c.args.self.now.overlay)) c.loop-path.files.items (into_iter_items c.loop-path.path-iterator) _
    (omega (arith, c.loop-path.path-iterator.rest.ok, c.in-None.ensures.steps.0)) c.loop-path.invariant
