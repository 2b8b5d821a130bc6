use Rattle.std.proofs.Common.{length}
use Rattle.eden_git.proofs.Noting.{AreNoted}
use Rattle.eden_git.proofs.columns.Columns.of.Given as goal

abbrev pub invariant-entries : goal.invariant-entries
invariant-entries l = record {
  noted : AreNoted l.payload l.columns l.rest;
}

abbrev pub decreases-entries : goal.decreases-entries
decreases-entries l = length l.rest
