use Rattle.std.proofs.Common.{◌≡◌, List, ◌++◌, map, take}
use Rattle.std.specs.Prelude.{All}
use Rattle.eden_messages.specs.declared.message.Request.{Request}
use Rattle.eden_follow.specs.internal.Rows.{IsMarked, IsTimelyRow, asked}
use Rattle.eden_follow.proofs.marking.send_all.Given as goal

-- the requests so far were sent in time, and their rows are marked
abbrev pub invariant-loop-request : goal.invariant-loop-request
invariant-loop-request l = record {
  rows : map asked l.rows ≡ map asked l.initial.rows;
  marked : (sent : List Request) → All (IsMarked sent) l.initial.rows → All (IsMarked (sent ++ take l.request-index l.requests)) l.rows;
  timely : (sent : List Request) → All (IsMarked sent) l.initial.rows → All (IsTimelyRow (map asked l.initial.rows) sent l.highest) (take l.request-index l.requests);
}
