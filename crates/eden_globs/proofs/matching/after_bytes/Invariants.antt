use Rattle.std.proofs.Common.{◌≤◌, drop, length}
use Rattle.eden_globs.specs.internal.Compiled.{is_run, takes}
use Rattle.eden_globs.proofs.Stretches.{Leads}
use Rattle.eden_globs.proofs.matching.after_bytes.Given as goal

abbrev pub invariant-loop-at : goal.invariant-loop-at
invariant-loop-at l = record {
  within : l.at ≤ length l.name;
  leads : Leads is_run takes l.tokens l.name (drop l.at l.tokens) (drop l.at l.name);
}
