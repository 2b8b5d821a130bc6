use Rattle.std.proofs.Common.{subst, arith}
use Rattle.eden_wire.specs.Reading.{Gives}
use Rattle.eden_wire.specs.Attributes.{attributes_are}
use Rattle.eden_wire.proofs.BodyLaws.{is_spelled_tagged, tagged_read}
use Rattle.eden_wire.proofs.StatLaws.{attributes_are_laws}
use Rattle.eden_wire.proofs.attributes.decode_attributes.Goals as goal

pub returns-clause-spelled : goal.returns-clause-spelled
returns-clause-spelled c = is_spelled_tagged 137 attributes_are attributes_are_laws c.args.body.now c.body_of.result (λ i. omega (arith, c.type_inv.body i)) c.body_of.ensures

pub returns-clause-all : goal.returns-clause-all
returns-clause-all c = λ message spells. subst (λ read. Gives (λ m. m) c.body_of.result read) (tagged_read 137 attributes_are attributes_are_laws c.args.body.now message spells) c.body_of.ensures
