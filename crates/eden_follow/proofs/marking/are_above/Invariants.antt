use Rattle.std.proofs.Common.{◌≡◌, take}
use Rattle.std.specs.Prelude.{All}
use Rattle.eden_follow.specs.declared.rows.RequestRow.{RequestRow}
use Rattle.eden_follow.specs.internal.Rows.{IsAbove}
use Rattle.eden_follow.proofs.marking.are_above.Given as goal

-- all rows so far that have the request are above
abbrev pub invariant-loop-row : goal.invariant-loop-row
invariant-loop-row l = All (λ (row : RequestRow). row.request.now ≡ l.request → IsAbove l.highest row.ticket) (take l.row-index l.rows)
