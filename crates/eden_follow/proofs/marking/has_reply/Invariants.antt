use Rattle.std.proofs.Common.{◌≡◌, take}
use Rattle.std.specs.Prelude.{All}
use Rattle.eden_follow.specs.declared.rows.ReplyRow.{ReplyRow}
use Rattle.eden_follow.proofs.marking.has_reply.Given as goal

-- no row so far has the reply under the ticket
abbrev pub invariant-loop-row : goal.invariant-loop-row
invariant-loop-row l = All (λ (row : ReplyRow). row.ticket ≡ l.ticket → row.reply.now ≡ l.reply → ⊥) (take l.row-index l.rows)
