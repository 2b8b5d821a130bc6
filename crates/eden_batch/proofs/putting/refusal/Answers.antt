use Rattle.eden_batch.proofs.Fillings.{refusal_is}
use Rattle.eden_batch.proofs.putting.refusal.Goals as goal

pub returns-in_default : goal.returns-in_default
returns-in_default c = refusal_is c.args.cause c.in_default.not-NoMemory
