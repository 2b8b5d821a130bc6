use Rattle.eden_script.proofs.EscapeLemmas.{escaped-no_space, escaped-no_line_feed, escaped-nonempty}
use Rattle.eden_script.proofs.laws.word_law.Goals as goal

pub returns : goal.returns
returns c bytes = (escaped-no_space bytes, escaped-no_line_feed bytes, escaped-nonempty bytes)
