use Rattle.std.proofs.Common.{arith}
use Rattle.std.specs.Vec.Iter.{into_iter_items}
use Rattle.eden_globs.specs.Filters.{admits}
use Rattle.eden_overlay.specs.Layers.{over}
use Rattle.eden_history.specs.DirtyFiles.{dirty_mark}
use Rattle.eden_workcopy.proofs.DirtyMarks.{none_marked, one_marked}
use Rattle.eden_workcopy.proofs.marking.marked_over.Goals as goal

pub loop-path-preserved : goal.loop-path-preserved
loop-path-preserved g c =
    let root = g.T.FileTree.files c.args.root.now in
    one_marked (admits c.args.wanted.now) (dirty_mark (over root c.args.overlay.now) root) c.loop-path.marked.items c.add_marked.new.marked.items c.in-Some.path
    (into_iter_items c.next.new.self) (into_iter_items c.loop-path.path-iterator) _ c.in-Some.ensures.steps.0 c.in_ok-add_marked.ensures c.loop-path.invariant

pub returns : goal.returns
returns g c =
    let root = g.T.FileTree.files c.args.root.now in
    none_marked (admits c.args.wanted.now) (dirty_mark (over root c.args.overlay.now) root) c.loop-path.marked.items (into_iter_items c.loop-path.path-iterator) _
    (omega (arith, c.loop-path.path-iterator.rest.ok, c.in-None.ensures.steps.0)) c.loop-path.invariant
