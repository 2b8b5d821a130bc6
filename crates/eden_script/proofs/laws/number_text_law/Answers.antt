use Rattle.eden_git.proofs.NumberLemmas.{number_of-some}
use Rattle.eden_script.proofs.laws.number_text_law.Goals as goal

pub returns : goal.returns
returns c word n is = (number_of-some word n is).1
