use Rattle.std.proofs.Common.{◌≡◌, false, take}
use Rattle.std.specs.Prelude.{All}
use Rattle.eden_follow.specs.declared.rows.RequestRow.{RequestRow}
use Rattle.eden_follow.proofs.marking.was_sent.Given as goal

-- no row so far that has the request is marked
abbrev pub invariant-loop-row : goal.invariant-loop-row
invariant-loop-row l = All (λ (row : RequestRow). row.request.now ≡ l.request → row.sent ≡ false) (take l.row-index l.rows)
