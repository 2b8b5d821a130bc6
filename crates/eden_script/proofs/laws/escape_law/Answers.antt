use Rattle.eden_script.proofs.EscapeLemmas.{unescaped-escaped}
use Rattle.eden_script.proofs.laws.escape_law.Goals as goal

pub returns : goal.returns
returns c = unescaped-escaped
