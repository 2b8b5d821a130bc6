use Rattle.std.proofs.Common.{List, ◌++◌, map, take, sym, subst, ◌∙◌}
use Rattle.std.specs.Prelude.{All}
use Rattle.std.proofs.lemmas.List.{take_all}
use Rattle.std.proofs.lemmas.Result.{err_from_is_err_and}
use Rattle.eden_messages.specs.declared.message.Request.{Request}
use Rattle.eden_follow.specs.internal.Rows.{IsLateRow, IsMarked, IsTimelyRow, asked}
use Rattle.eden_follow.proofs.Grouped.{still_in_order}
use Rattle.eden_follow.proofs.Marked.{late_among, sent_next, timely_next}
use Rattle.eden_follow.proofs.marking.send_all.Goals as goal

pub returns-in_err-send-clause-late : goal.returns-in_err-send-clause-late
returns-in_err-send-clause-late c =
    let p = err_from_is_err_and c.from_residual.result c.from_residual.ensures.1 in
    let i = c.loop-request.request-index in
    rw (p.1, p.2) (
      c.in_err-send.ensures.late.0,
      λ sent marked.
          late_among (map asked c.args.rows.now) sent (take i c.args.requests.now) c.args.requests.now c.args.highest c.request-item.result (i, c.loop-request-test.true, sym c.request-item.is)
          (subst (λ rows. IsLateRow rows (sent ++ take i c.args.requests.now) c.args.highest c.request-item.result) c.loop-request.invariant.rows
          (c.in_err-send.ensures.late.1 (sent ++ take i c.args.requests.now) (c.loop-request.invariant.marked sent marked))),
    )

pub loop-request-preserved : goal.loop-request-preserved
loop-request-preserved c =
    let i = c.loop-request.request-index in
    record {
      rows = c.send.ensures.rows ∙ c.loop-request.invariant.rows;
      marked = λ sent marked. sent_next c.send.new.rows sent c.args.requests.now i c.request-item.result c.loop-request-test.true c.request-item.is
          (c.in_ok-send.ensures.marked (sent ++ take i c.args.requests.now) (c.loop-request.invariant.marked sent marked));
      timely = λ sent marked. timely_next (map asked c.args.rows.now) sent c.args.requests.now c.args.highest i c.request-item.result c.loop-request-test.true c.request-item.is
          (c.loop-request.invariant.timely sent marked)
          (subst (λ rows. IsTimelyRow rows (sent ++ take i c.args.requests.now) c.args.highest c.request-item.result) c.loop-request.invariant.rows
          (c.in_ok-send.ensures.timely (sent ++ take i c.args.requests.now) (c.loop-request.invariant.marked sent marked)));
    }

pub returns-clause-marked : goal.returns-clause-marked
returns-clause-marked c =
    λ sent marked. subst (λ (rs : List Request). All (IsMarked (sent ++ rs)) c.loop-request.rows) (take_all c.loop-request.request-index c.args.requests.now c.loop-request-test.false)
    (c.loop-request.invariant.marked sent marked)

pub returns-clause-timely : goal.returns-clause-timely
returns-clause-timely c =
    λ sent marked. subst (λ (rs : List Request). All (IsTimelyRow (map asked c.args.rows.now) sent c.args.highest) rs) (take_all c.loop-request.request-index c.args.requests.now c.loop-request-test.false)
    (c.loop-request.invariant.timely sent marked)

pub send-requires : goal.send-requires
send-requires c = still_in_order c.args.rows.now c.loop-request.rows c.loop-request.invariant.rows c.requires
