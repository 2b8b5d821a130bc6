use Rattle.std.proofs.Common.{◌<◌, ◌≤◌, ◌^◌, length}
use Rattle.eden_objects.proofs.Judging.{Judging}
use Rattle.eden_objects.proofs.store.Store.judged.Given as goal

abbrev pub decreases-loop-rest : goal.decreases-loop-rest
decreases-loop-rest g l = length l.rest

abbrev pub invariant-loop-rest : goal.invariant-loop-rest
invariant-loop-rest g l = record {
  judging : Judging l.fn.self l.fn.payload l.seen l.size l.files l.columns l.rest;
  small : l.files < 2 ^ 64;
  within : length l.rest ≤ length l.fn.payload;
}
