use Rattle.eden_ids.proofs.Texts.{bytes_at}
use Rattle.eden_wire.specs.Statuses.{status_is}
use Rattle.eden_wire.proofs.BodyLaws.{tagged_read, tagged_spelled}
use Rattle.eden_wire.proofs.StatLaws.{status_is_laws}
use Rattle.eden_wire.proofs.laws.status_law.Goals as goal

pub returns-clause-decoded : goal.returns-clause-decoded
returns-clause-decoded c = tagged_read 138 status_is status_is_laws

pub returns-clause-encoded : goal.returns-clause-encoded
returns-clause-encoded c = λ body message bytes read. tagged_spelled 138 status_is status_is_laws body message (bytes_at body bytes) read
