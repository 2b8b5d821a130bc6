use Rattle.std.proofs.Common.{◌≤◌, drop}
use Rattle.eden_globs.specs.internal.Compiled.{is_any_names_part, left_length, left_of, part_matches}
use Rattle.eden_globs.proofs.Stretches.{Leads}
use Rattle.eden_globs.proofs.matching.after_names.Given as goal

abbrev pub invariant-loop-at : goal.invariant-loop-at
invariant-loop-at l = record {
  shorter : left_length l.left ≤ left_length l.path;
  leads : Leads is_any_names_part part_matches l.parts (left_of l.path) (drop l.at l.parts) (left_of l.left);
}
