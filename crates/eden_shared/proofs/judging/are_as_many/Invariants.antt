use Rattle.std.proofs.Common.{◌≡◌, ◌+◌, length, take}
use Rattle.eden_logs.specs.Logs.{tickets_in}
use Rattle.eden_shared.proofs.judging.are_as_many.Given as goal

-- what is left is the count less the entries so far
abbrev pub invariant-loop-log : goal.invariant-loop-log
invariant-loop-log l = length (tickets_in (take l.log-index l.logs)) + l.left ≡ l.count
