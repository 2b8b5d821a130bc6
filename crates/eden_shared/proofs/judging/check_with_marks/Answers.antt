use Rattle.std.proofs.Common.{◌≡◌, length, take, ◌∙◌, sym, subst, ℕ, List}
use Rattle.std.proofs.lemmas.Result.{err_from_is_err_and}
use Rattle.eden_logs.specs.Logs.{tickets_in}
use Rattle.eden_shared.specs.internal.Marks.{Marks}
use Rattle.eden_shared.proofs.Marked.{good_numbers}
use Rattle.eden_shared.proofs.Walked.{logs_next, logs_stop, tickets_next}
use Rattle.eden_shared.proofs.judging.check_with_marks.Goals as goal

pub mark_tickets-requires : goal.mark_tickets-requires
mark_tickets-requires c =
    let count : length c.loop-log.marks ≡ length c.args.history.now = c.loop-log.auto.marks ∙ c.requires.count in
    good_numbers c.args.history.now c.args.answers.now _ _ _ _ _ count (c.in_ok-check_log.ensures.good _ c.loop-log.invariant.marked)

pub returns-in_err-check_log-clause-fault : goal.returns-in_err-check_log-clause-fault
returns-in_err-check_log-clause-fault c =
    let p = err_from_is_err_and c.from_residual.result c.from_residual.ensures.1 in
    rw (p.1, p.2) (logs_stop c.args.history.now c.args.answers.now c.args.logs.now (tickets_in (take c.loop-log.log-index c.args.logs.now)) c.loop-log.log-index
    c.log-item.result c.in_err-check_log.field-0.0 c.loop-log-test.true c.log-item.is c.loop-log.invariant.walks (c.in_err-check_log.ensures.fault _ c.loop-log.invariant.marked))

pub loop-log-preserved : goal.loop-log-preserved
loop-log-preserved c = record {
  marked =
      subst (λ (tickets : List ℕ). Marks c.mark_tickets.new.marks tickets) (sym (tickets_next c.args.logs.now c.loop-log.log-index c.log-item.result c.loop-log-test.true c.log-item.is))
      (c.mark_tickets.ensures _ c.loop-log.invariant.marked);
  walks = logs_next c.args.history.now c.args.answers.now c.args.logs.now c.loop-log.log-index c.log-item.result c.loop-log-test.true c.log-item.is c.loop-log.invariant.walks
      (c.in_ok-check_log.ensures.good _ c.loop-log.invariant.marked);
}
