use Rattle.std.proofs.Common.{sym, ◌∙◌}
use Rattle.eden_messages.proofs.spelling_law.one_spelling_law.Goals as goal

pub returns-clause-requests : goal.returns-clause-requests
returns-clause-requests c = λ a b request one other. one.bytes ∙ sym other.bytes

pub returns-clause-replies : goal.returns-clause-replies
returns-clause-replies c = λ a b reply one other. one.bytes ∙ sym other.bytes
