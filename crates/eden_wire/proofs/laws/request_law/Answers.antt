use Rattle.eden_ids.proofs.Texts.{bytes_at}
use Rattle.eden_wire.proofs.BodyLaws.{request_read, request_spelled}
use Rattle.eden_wire.proofs.laws.request_law.Goals as goal

pub returns-clause-decoded : goal.returns-clause-decoded
returns-clause-decoded c = request_read

pub returns-clause-encoded : goal.returns-clause-encoded
returns-clause-encoded c = λ body request bytes read. request_spelled body request (bytes_at body bytes) read
