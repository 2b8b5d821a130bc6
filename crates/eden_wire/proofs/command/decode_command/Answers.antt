use Rattle.std.proofs.Common.{subst, arith}
use Rattle.eden_wire.specs.Reading.{Gives}
use Rattle.eden_wire.proofs.DoLaws.{command_read, is_spelled_command}
use Rattle.eden_wire.proofs.command.decode_command.Goals as goal

pub returns-clause-spelled : goal.returns-clause-spelled
returns-clause-spelled c = is_spelled_command c.args.body.now c.command_of.result (λ i. omega (arith, c.type_inv.body i)) c.command_of.ensures

pub returns-clause-all : goal.returns-clause-all
returns-clause-all c = λ command spells. subst (λ read. Gives (λ m. m) c.command_of.result read) (command_read c.args.body.now command spells) c.command_of.ensures
