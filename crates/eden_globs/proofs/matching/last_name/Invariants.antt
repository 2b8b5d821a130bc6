use Rattle.std.proofs.Common.{◌≡◌, ◌<◌, ◌≤◌, ℕ, false, length, nat_eq}
use Rattle.std.specs.List.{slice_index_or}
use Rattle.eden_globs.proofs.matching.last_name.Given as goal

abbrev pub invariant-loop-at : goal.invariant-loop-at
invariant-loop-at l = record {
  within : l.at ≤ length l.path;
  none : (i : ℕ) → l.at ≤ i → i < length l.path → nat_eq (slice_index_or l.path i 0) 47 ≡ false;
}
