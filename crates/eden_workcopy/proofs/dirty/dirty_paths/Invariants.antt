use Rattle.std.proofs.Common.{◌≡◌, ◌++◌}
use Rattle.std.specs.FinMap as fin
use Rattle.eden_overlay.proofs.Touched.{kept, is_other}
use Rattle.eden_workcopy.proofs.dirty.dirty_paths.Given as goal

abbrev pub invariant-loop-entry : goal.invariant-loop-entry
invariant-loop-entry g l =
    l.dirty.items ++ kept (is_other (g.T.FileTree.files l.root)) l.entry-iterator ≡ kept (is_other (g.T.FileTree.files l.root)) (fin.entries l.overlay)
