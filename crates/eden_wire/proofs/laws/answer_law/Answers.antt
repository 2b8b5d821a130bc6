use Rattle.eden_wire.proofs.AnswerLaws.{answers_in_order}
use Rattle.eden_wire.proofs.laws.answer_law.Goals as goal

pub returns : goal.returns
returns c = answers_in_order
