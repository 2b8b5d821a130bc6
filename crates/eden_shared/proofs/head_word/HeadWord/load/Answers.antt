use Rattle.std.proofs.Common.{rules}
use Rattle.eden_shared.proofs.HeadLemmas.{loads}
use Rattle.eden_shared.proofs.head_word.HeadWord.load.Goals as goal

pub load-requires : goal.load-requires
load-requires c = (search rules, search rules, loads _ _ _)
