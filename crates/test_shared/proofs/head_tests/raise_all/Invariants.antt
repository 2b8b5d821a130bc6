use Rattle.std.proofs.Common.{◌≡◌}
use Rattle.test_shared.proofs.head_tests.raise_all.Given as goal

abbrev pub invariant-loop-round : goal.invariant-loop-round
invariant-loop-round l = l.seat.word ≡ l.initial.seat.word
