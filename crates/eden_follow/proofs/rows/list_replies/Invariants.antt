use Rattle.std.proofs.Common.{◌≡◌, map, take}
use Rattle.eden_logs.specs.Logs.{entries_in}
use Rattle.eden_follow.specs.internal.Rows.{told, told_in}
use Rattle.eden_follow.proofs.rows.list_replies.Given as goal

-- the rows are those of the logs so far
abbrev pub invariant-loop-log : goal.invariant-loop-log
invariant-loop-log l = map told l.rows.items ≡ told_in (entries_in (take l.log-index l.logs))
