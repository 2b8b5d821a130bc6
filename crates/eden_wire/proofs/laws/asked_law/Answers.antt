use Rattle.eden_ids.proofs.Texts.{bytes_at}
use Rattle.eden_wire.proofs.AskedLaws.{asked_read, asked_spelled}
use Rattle.eden_wire.proofs.laws.asked_law.Goals as goal

pub returns-clause-decoded : goal.returns-clause-decoded
returns-clause-decoded c = asked_read

pub returns-clause-encoded : goal.returns-clause-encoded
returns-clause-encoded c = λ body asked bytes read. asked_spelled body asked (bytes_at body bytes) read
