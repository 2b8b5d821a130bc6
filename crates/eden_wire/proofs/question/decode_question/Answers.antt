use Rattle.std.proofs.Common.{subst, arith}
use Rattle.eden_wire.specs.Reading.{Gives}
use Rattle.eden_wire.proofs.QuestionLaws.{question_read, is_spelled_question}
use Rattle.eden_wire.proofs.question.decode_question.Goals as goal

pub returns-clause-spelled : goal.returns-clause-spelled
returns-clause-spelled c = is_spelled_question c.args.body.now c.question_of.result (λ i. omega (arith, c.type_inv.body i)) c.question_of.ensures

pub returns-clause-all : goal.returns-clause-all
returns-clause-all c = λ question spells. subst (λ read. Gives (λ m. m) c.question_of.result read) (question_read c.args.body.now question spells) c.question_of.ensures
