use Rattle.std.proofs.Common.{subst, arith}
use Rattle.eden_wire.specs.Reading.{Gives}
use Rattle.eden_wire.proofs.AskedLaws.{asked_read, is_spelled_asked}
use Rattle.eden_wire.proofs.asked.decode_asked.Goals as goal

pub returns-clause-spelled : goal.returns-clause-spelled
returns-clause-spelled c = is_spelled_asked c.args.body.now c.asked_of.result (λ i. omega (arith, c.type_inv.body i)) c.asked_of.ensures

pub returns-clause-all : goal.returns-clause-all
returns-clause-all c = λ asked spells. subst (λ read. Gives (λ a. a) c.asked_of.result read) (asked_read c.args.body.now asked spells) c.asked_of.ensures
