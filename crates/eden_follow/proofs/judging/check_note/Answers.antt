use Rattle.std.proofs.Common.{List, ◌++◌, map, subst}
use Rattle.std.specs.Prelude.{All}
use Rattle.std.proofs.lemmas.Result.{err_from_is_err_and}
use Rattle.eden_messages.specs.declared.message.Request.{Request}
use Rattle.eden_headline.specs.Notes.{sent_in}
use Rattle.eden_follow.specs.internal.Rows.{HasLate, IsMarked, IsTimelyRow, asked, told}
use Rattle.eden_follow.proofs.Judged.{at_began, at_came, at_sent, sent_cause, sent_vouched}
use Rattle.eden_follow.proofs.Marked.{none_told}
use Rattle.eden_follow.proofs.judging.check_note.Goals as goal

pub returns-in_err-send_all-in-Sent-clause-cause : goal.returns-in_err-send_all-in-Sent-clause-cause
returns-in_err-send_all-in-Sent-clause-cause c =
    let p = err_from_is_err_and c.from_residual.result c.from_residual.ensures.1 in
    rw (p.1, p.2) (λ entries earlier lists at.
    sent_cause entries (map told c.args.replies.now) (map asked c.args.rows.now) earlier c.args.highest c.in-Sent.requests c.args.note.now c.in_err-send_all-in-Sent.field-0.0 c.in-Sent.is
    c.in_err-send_all-in-Sent.ensures.late.0 lists at.is_highest
    (subst (λ (rs : List Request). HasLate (map asked c.args.rows.now) (sent_in earlier) c.args.highest rs) c.as_slice.ensures
    (c.in_err-send_all-in-Sent.ensures.late.1 (sent_in earlier) at.marked)))

pub returns-then-not-is_told-clause-cause : goal.returns-then-not-is_told-clause-cause
returns-then-not-is_told-clause-cause c =
    λ entries earlier lists at. rw c.in-Came.is (λ answered. none_told c.args.replies.now _ _ (c.is_told.ensures.untold c.if-not-is_told.true) (lists.answered _ _ answered))

pub returns-in-Began-clause-at : goal.returns-in-Began-clause-at
returns-in-Began-clause-at c = λ earlier at. rw c.in-Began.is (at_began earlier c.args.rows.now c.args.highest at)

pub returns-in_ok-send_all-in-Sent-clause-at : goal.returns-in_ok-send_all-in-Sent-clause-at
returns-in_ok-send_all-in-Sent-clause-at c =
    λ earlier at. rw c.in-Sent.is (at_sent earlier c.args.rows.now c.send_all.new.rows c.args.highest c.in-Sent.requests at
    (subst (λ (rs : List Request). All (IsMarked (sent_in earlier ++ rs)) c.send_all.new.rows) c.as_slice.ensures
    (c.in_ok-send_all-in-Sent.ensures.marked (sent_in earlier) at.marked)))

pub returns-in_ok-send_all-in-Sent-clause-vouched : goal.returns-in_ok-send_all-in-Sent-clause-vouched
returns-in_ok-send_all-in-Sent-clause-vouched c =
    λ entries earlier lists at. sent_vouched entries (map told c.args.replies.now) (map asked c.args.rows.now) earlier c.args.highest c.in-Sent.requests c.args.note.now c.in-Sent.is lists at.is_highest
    (subst (λ (rs : List Request). All (IsTimelyRow (map asked c.args.rows.now) (sent_in earlier) c.args.highest) rs) c.as_slice.ensures
    (c.in_ok-send_all-in-Sent.ensures.timely (sent_in earlier) at.marked))

pub returns-else-not-is_told-clause-at : goal.returns-else-not-is_told-clause-at
returns-else-not-is_told-clause-at c =
    λ earlier at. rw c.in-Came.is (at_came earlier c.args.rows.now c.args.highest c.higher.result _ _ at (c.higher.ensures _ at.is_highest))
