use Rattle.std.proofs.Common.{◌≢◌, length, rules, sym, subst}
use Rattle.std.proofs.lemmas.Result.{err_from_is_err_and}
use Rattle.eden_accumulate.specs.Mounts.{StandsFor}
use Rattle.eden_logs.specs.Logs.{tickets_in}
use Rattle.eden_shared.proofs.Accounted.{counts_by, wrong_by}
use Rattle.eden_shared.proofs.auditing.compare.Goals as goal

pub returns-in_err-check_logs-clause-fault : goal.returns-in_err-check_logs-clause-fault
returns-in_err-check_logs-clause-fault g c =
    let p = err_from_is_err_and c.from_residual-in_err-check_logs.result c.from_residual-in_err-check_logs.ensures.1 in
    rw (← c.audited.view_is) (rw (p.1, p.2) (λ n world h. wrong_by g.N.Naming.id world c.audited.inside.entries.items c.as_slice-history.result.now c.in_ok-answers.answers.items c.as_slice.result.now
    c.args.logs.now c.in_err-check_logs.field-0.0 c.as_slice-history.ensures.value c.as_slice.ensures.value
    (c.in_ok-answers.ensures world (subst (λ m. StandsFor m world) (sym c.in_ok-opening.ensures.copy) h)) (c.in_err-check_logs.ensures.fault n)))

pub returns-clause-fault : goal.returns-clause-fault
returns-clause-fault g c =
    let count : length (tickets_in c.args.logs.now) ≢ length c.as_slice-history.result.now = search rules in
    rw (← c.audited.view_is) (λ n world h. counts_by g.N.Naming.id world c.audited.inside.entries.items c.as_slice-history.result.now c.in_ok-answers.answers.items c.as_slice.result.now
    c.args.logs.now c.as_slice-history.ensures.value c.as_slice.ensures.value
    (c.in_ok-answers.ensures world (subst (λ m. StandsFor m world) (sym c.in_ok-opening.ensures.copy) h)) c.in_ok-check_logs.ensures.good count)
