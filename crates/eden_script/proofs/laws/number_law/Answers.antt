use Rattle.eden_git.proofs.NumberLemmas.{number_of-decimal}
use Rattle.eden_script.proofs.laws.number_law.Goals as goal

pub returns : goal.returns
returns c = number_of-decimal
