use Rattle.std.proofs.Common.{length, ◌<◌}
use Rattle.test_beside.proofs.filters_tests.+is_named.Given as goal

abbrev pub decreases-is_named : goal.decreases-is_named
decreases-is_named l = length l.part.now

abbrev pub invariant-loop-skipped : goal.invariant-loop-skipped
invariant-loop-skipped l = length l.rest < length l.part
