use Rattle.std.proofs.Common.{◌≡◌, map, take}
use Rattle.std.specs.Prelude.{All}
use Rattle.eden_logs.specs.Logs.{entries_in}
use Rattle.eden_follow.specs.internal.Rows.{IsUnsent, asked, asked_in}
use Rattle.eden_follow.proofs.rows.list_requests.Given as goal

-- the rows are those of the logs so far
abbrev pub invariant-loop-log : goal.invariant-loop-log
invariant-loop-log l = record {
  rows : map asked l.rows.items ≡ asked_in (entries_in (take l.log-index l.logs));
  unsent : All IsUnsent l.rows.items;
}
