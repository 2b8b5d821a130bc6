use Rattle.std.proofs.Common.{length, ◌<◌}
use Rattle.test_beside.proofs.filters_tests.+is_matched.Given as goal

abbrev pub decreases-is_matched : goal.decreases-is_matched
decreases-is_matched l = length l.parts.now

abbrev pub invariant-loop-skipped : goal.invariant-loop-skipped
invariant-loop-skipped l = length l.rest < length l.parts
