use Rattle.eden_ids.proofs.Texts.{bytes_at}
use Rattle.eden_wire.proofs.BodyLaws.{reply_read, reply_spelled}
use Rattle.eden_wire.proofs.laws.reply_law.Goals as goal

pub returns-clause-decoded : goal.returns-clause-decoded
returns-clause-decoded c = reply_read

pub returns-clause-encoded : goal.returns-clause-encoded
returns-clause-encoded c = λ body reply bytes read. reply_spelled body reply (bytes_at body bytes) read
