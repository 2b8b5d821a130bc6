use Rattle.eden_script.proofs.WordLemmas.{line_of-no_line_feed}
use Rattle.eden_script.proofs.laws.line_feed_law.Goals as goal

pub returns : goal.returns
returns c = line_of-no_line_feed
