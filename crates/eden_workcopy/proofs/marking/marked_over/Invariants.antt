use Rattle.std.proofs.Common.{◌≡◌, ◌++◌}
use Rattle.std.specs.Vec.Iter.{into_iter_items}
use Rattle.eden_globs.specs.Filters.{admits}
use Rattle.eden_overlay.specs.Layers.{over}
use Rattle.eden_history.specs.DirtyFiles.{dirty_mark, dirty_marks}
use Rattle.eden_workcopy.proofs.DirtyMarks.{marks_of}
use Rattle.eden_workcopy.proofs.marking.marked_over.Given as goal

-- the marks so far, and those of what is left
abbrev pub invariant-loop-path : goal.invariant-loop-path
invariant-loop-path g l =
    let root = g.T.FileTree.files l.root in
    let work = over root l.overlay in
    l.marked.items ++ marks_of (admits l.wanted) (dirty_mark work root) (into_iter_items l.path-iterator) ≡ dirty_marks work root l.wanted
