use Rattle.eden_script.proofs.WordLemmas.{words_of-line_of}
use Rattle.eden_script.proofs.laws.line_law.Goals as goal

pub returns : goal.returns
returns c = words_of-line_of
