use Rattle.eden_serve.proofs.Judging.{agrees}
use Rattle.eden_serve.proofs.auditing.audit_all.Goals as goal

pub invariant_of-result : goal.invariant_of-result
invariant_of-result g c =
    record { agree = agrees c.in-Ok.audited c.audit.new.audited c.as_slice.result.now c.args.logs.items c.as_slice.ensures.value c.audit.ensures.same c.in-Ok-audit.ensures.agree c.in-Ok-audit.ensures.noted }
