use Rattle.eden_ids.proofs.Texts.{bytes_at}
use Rattle.eden_wire.specs.Attributes.{attributes_are}
use Rattle.eden_wire.proofs.BodyLaws.{tagged_read, tagged_spelled}
use Rattle.eden_wire.proofs.StatLaws.{attributes_are_laws}
use Rattle.eden_wire.proofs.laws.attributes_law.Goals as goal

pub returns-clause-decoded : goal.returns-clause-decoded
returns-clause-decoded c = tagged_read 137 attributes_are attributes_are_laws

pub returns-clause-encoded : goal.returns-clause-encoded
returns-clause-encoded c = λ body message bytes read. tagged_spelled 137 attributes_are attributes_are_laws body message (bytes_at body bytes) read
