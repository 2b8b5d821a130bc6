use Rattle.std.proofs.Common.{take, drop}
use Rattle.eden_logs.specs.Logs.{tickets_in}
use Rattle.eden_shared.specs.internal.Marks.{Marks}
use Rattle.eden_shared.specs.internal.Walks.{LogWalks}
use Rattle.eden_shared.proofs.judging.check_with_marks.Given as goal

-- the tickets of the logs so far are marked, and what is found of the logs left settles them all
abbrev pub invariant-loop-log : goal.invariant-loop-log
invariant-loop-log l = record {
  marked : Marks l.marks (tickets_in (take l.log-index l.logs));
  walks : LogWalks l.history l.answers l.logs (tickets_in (take l.log-index l.logs)) (drop l.log-index l.logs);
}
