use Rattle.std.proofs.Common.{◌≡◌, ◌<◌, ℕ, false, nat_eq}
use Rattle.std.specs.List.{slice_index_or}
use Rattle.eden_globs.proofs.pattern.cut.Given as goal

abbrev pub invariant-loop-at : goal.invariant-loop-at
invariant-loop-at l = record { none : (i : ℕ) → i < l.at → nat_eq (slice_index_or l.bytes i 0) 47 ≡ false }
