use Rattle.std.proofs.Common.{inl, inr, refl}
use Rattle.eden_follow.specs.internal.Rows.{IsMarked}
use Rattle.eden_follow.proofs.Grouped.{all_in}
use Rattle.eden_follow.proofs.Marked.{all_above, all_unsent, late_row, low_in, marked_again, timely_row}
use Rattle.eden_follow.proofs.marking.send.Goals as goal

pub returns-then-was_sent-clause-marked : goal.returns-then-was_sent-clause-marked
returns-then-was_sent-clause-marked c =
    λ sent marked. marked_again sent c.args.request.now c.args.rows.now
    (c.was_sent.ensures.sent c.if-was_sent.true sent (all_in (IsMarked sent) c.args.rows.now _ _ c.rows_of-start.ensures.bound marked)) marked

pub returns-then-was_sent-clause-timely : goal.returns-then-was_sent-clause-timely
returns-then-was_sent-clause-timely c =
    λ sent marked. inl (c.was_sent.ensures.sent c.if-was_sent.true sent (all_in (IsMarked sent) c.args.rows.now _ _ c.rows_of-start.ensures.bound marked))

pub returns-then-not-are_above-clause-late : goal.returns-then-not-are_above-clause-late
returns-then-not-are_above-clause-late c = (
  refl,
  λ sent marked. late_row c.args.rows.now sent c.args.request.now c.args.highest marked
      (all_unsent c.args.request.now c.args.rows.now _ _ c.rows_of-start.ensures (c.was_sent.ensures.unsent c.if-was_sent.false))
      (low_in c.args.request.now c.args.rows.now _ _ c.rows_of-start.ensures c.args.highest (c.are_above.ensures.low c.if-not-are_above.true)),
)

pub returns-clause-timely : goal.returns-clause-timely
returns-clause-timely c =
    λ sent marked. inr (timely_row c.args.rows.now c.args.request.now c.args.highest
    (all_above c.args.request.now c.args.rows.now _ _ c.rows_of-start.ensures c.args.highest (c.are_above.ensures.above c.if-not-are_above.false)))
