use Rattle.std.proofs.Common.{◌≡◌, true, take}
use Rattle.std.specs.Prelude.{All}
use Rattle.eden_headline.specs.Vouched.{is_own}
use Rattle.eden_follow.specs.declared.rows.RequestRow.{RequestRow}
use Rattle.eden_follow.proofs.judging.check_requests.Given as goal

-- all rows so far that are under the id and the life are marked
abbrev pub invariant-loop-row : goal.invariant-loop-row
invariant-loop-row l = All (λ (row : RequestRow). is_own l.id l.life row.request.now ≡ true → row.sent ≡ true) (take l.row-index l.rows)
