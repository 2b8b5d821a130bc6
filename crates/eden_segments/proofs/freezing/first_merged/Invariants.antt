use Rattle.std.proofs.Common.{◌≤◌, length}
use Rattle.eden_segments.proofs.freezing.first_merged.Given as goal

abbrev pub invariant-loop-first : goal.invariant-loop-first
invariant-loop-first g l = l.first ≤ length l.frozen

abbrev pub decreases-loop-first : goal.decreases-loop-first
decreases-loop-first g l = l.first
