use Rattle.std.proofs.Common.{subst, arith}
use Rattle.eden_wire.specs.Reading.{Gives}
use Rattle.eden_wire.specs.Stats.{stat_is}
use Rattle.eden_wire.proofs.BodyLaws.{is_spelled_tagged, tagged_read}
use Rattle.eden_wire.proofs.StatLaws.{stat_is_laws}
use Rattle.eden_wire.proofs.stat.decode_stat.Goals as goal

pub returns-clause-spelled : goal.returns-clause-spelled
returns-clause-spelled c = is_spelled_tagged 136 stat_is stat_is_laws c.args.body.now c.body_of.result (λ i. omega (arith, c.type_inv.body i)) c.body_of.ensures

pub returns-clause-all : goal.returns-clause-all
returns-clause-all c = λ message spells. subst (λ read. Gives (λ m. m) c.body_of.result read) (tagged_read 136 stat_is stat_is_laws c.args.body.now message spells) c.body_of.ensures
