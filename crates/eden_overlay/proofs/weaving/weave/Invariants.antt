use Rattle.std.proofs.Common.{◌+◌, length}
use Rattle.eden_overlay.specs.internal.Woven.{woven}
use Rattle.eden_overlay.proofs.Turns.{Weaves}
use Rattle.eden_overlay.proofs.weaving.weave.Given as goal

abbrev pub invariant-loop-order : goal.invariant-loop-order
invariant-loop-order g l =
    Weaves l.wanted l.paths.items l.listed.items (g.M.Marks.left l.marks) (woven l.wanted l.fn.listed.items (g.M.Marks.left l.fn.marks))

abbrev pub decreases-loop-order : goal.decreases-loop-order
decreases-loop-order g l = length l.listed.items + length (g.M.Marks.left l.marks)
