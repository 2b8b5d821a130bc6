use Rattle.std.proofs.Common.{◌≡◌, ◌++◌}
use Rattle.std.specs.FinMap as fin
use Rattle.eden_overlay.specs.Layers.{marks}
use Rattle.eden_workcopy.proofs.work.WorkCopy.touched.Given as goal

abbrev pub invariant-loop-entry : goal.invariant-loop-entry
invariant-loop-entry l = l.touched.items ++ marks l.entry-iterator ≡ marks (fin.entries l.self.overlay)
