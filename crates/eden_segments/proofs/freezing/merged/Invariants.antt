use Rattle.std.proofs.Common.{◌≡◌, ◌++◌, drop}
use Rattle.eden_segments.specs.internal.Segments.{stored}
use Rattle.eden_segments.proofs.freezing.merged.Given as goal

-- what is there, and after it what is left to take, is the whole
abbrev pub invariant-loop-segment : goal.invariant-loop-segment
invariant-loop-segment g l = l.merged ++ stored (drop l.segment-index l.frozen) l.newest ≡ stored l.frozen l.newest
