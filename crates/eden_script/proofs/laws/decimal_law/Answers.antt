use Rattle.eden_script.proofs.EscapeLemmas.{escaped-decimal}
use Rattle.eden_script.proofs.laws.decimal_law.Goals as goal

pub returns : goal.returns
returns c = escaped-decimal
