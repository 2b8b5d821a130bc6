use Rattle.eden_ids.proofs.Texts.{bytes_at}
use Rattle.eden_wire.proofs.QuestionLaws.{question_read, question_spelled}
use Rattle.eden_wire.proofs.laws.question_law.Goals as goal

pub returns-clause-decoded : goal.returns-clause-decoded
returns-clause-decoded c = question_read

pub returns-clause-encoded : goal.returns-clause-encoded
returns-clause-encoded c = λ body question bytes read. question_spelled body question (bytes_at body bytes) read
