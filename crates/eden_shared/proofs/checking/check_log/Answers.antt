use Rattle.std.proofs.lemmas.Result.{err_from_is_err_and}
use Rattle.eden_shared.proofs.Walked.{walk_stop}
use Rattle.eden_shared.proofs.checking.check_log.Goals as goal

pub returns-in_err-check_entry-clause-fault : goal.returns-in_err-check_entry-clause-fault
returns-in_err-check_entry-clause-fault c =
    let p = err_from_is_err_and c.from_residual.result c.from_residual.ensures.1 in
    let within = rw c.as_slice-noted-items.ensures at c.loop-noted-test.true in
    let item = rw c.as_slice-noted-items.ensures at c.noted-item.is in
    rw (p.1, p.2) (λ earlier marks. walk_stop c.args.history.now c.args.answers.now earlier c.args.log.now.caller c.args.log.now.entries c.loop-noted.noted-index c.loop-noted.last
    c.noted-item.result c.in_err-check_entry.field-0.0 within item (c.loop-noted.invariant earlier marks) (c.in_err-check_entry.ensures.fault earlier marks))
