use Rattle.std.proofs.Common.{rules}
use Rattle.eden_shared.proofs.HeadLemmas.{raises}
use Rattle.eden_shared.proofs.head_word.HeadWord.raise.Goals as goal

pub fetch_max-requires : goal.fetch_max-requires
fetch_max-requires c = (search rules, search rules, raises _ _ _ _)
