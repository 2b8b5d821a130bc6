use Rattle.eden_serve.proofs.Ending.{fault_torn}
use Rattle.eden_serve.proofs.auditing.fail.Goals as goal

pub returns-then-not-print : goal.returns-then-not-print
returns-then-not-print g c = fault_torn c.args.fault c.fault_text.result.now _ _ c.fault_text.ensures c.if-not-print.ensures.torn
