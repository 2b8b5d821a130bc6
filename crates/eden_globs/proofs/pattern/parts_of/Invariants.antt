use Rattle.std.proofs.Common.{◌≡◌, ℕ, List, ◌++◌}
use Rattle.eden_ids.specs.Paths.{components}
use Rattle.eden_globs.specs.internal.Compiled.{AreParts, left_length, left_of}
use Rattle.eden_globs.proofs.pattern.parts_of.Given as goal

abbrev pub invariant-loop-left : goal.invariant-loop-left
invariant-loop-left l = (done : List (List ℕ)) × (AreParts l.parts.items done × (components l.pattern ≡ done ++ left_of l.left))

abbrev pub decreases-loop-left : goal.decreases-loop-left
decreases-loop-left l = left_length l.left
