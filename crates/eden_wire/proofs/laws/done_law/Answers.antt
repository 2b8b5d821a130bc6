use Rattle.eden_ids.proofs.Texts.{bytes_at}
use Rattle.eden_wire.proofs.DoneLaws.{done_read, done_spelled}
use Rattle.eden_wire.proofs.laws.done_law.Goals as goal

pub returns-clause-decoded : goal.returns-clause-decoded
returns-clause-decoded c = done_read

pub returns-clause-encoded : goal.returns-clause-encoded
returns-clause-encoded c = λ body query done bytes read. done_spelled body query done (bytes_at body bytes) read
