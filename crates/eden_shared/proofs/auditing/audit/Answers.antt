use Rattle.eden_shared.proofs.Accounted.{noted_where_ok, excluded_where_err}
use Rattle.eden_shared.proofs.auditing.audit.Goals as goal

pub returns-clause-noted : goal.returns-clause-noted
returns-clause-noted g c = noted_where_ok g.N.Naming.id c.compare.result c.args.audited.now c.args.logs.now c.mount.ensures.history c.compare.ensures.agree

pub returns-clause-excluded : goal.returns-clause-excluded
returns-clause-excluded g c = excluded_where_err g.N.Naming.id c.compare.result c.args.audited.now c.args.logs.now c.compare.ensures.fault
