use Rattle.eden_accumulate.proofs.Importing.{stands_over}
use Rattle.eden_accumulate.proofs.laws.more_objects_law.Goals as goal

pub returns : goal.returns
returns c = stands_over
