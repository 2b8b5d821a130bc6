use Rattle.std.proofs.Common.{subst, arith}
use Rattle.eden_wire.specs.Reading.{Gives}
use Rattle.eden_wire.proofs.DoneLaws.{done_read, is_spelled_done}
use Rattle.eden_wire.proofs.done.decode_done.Goals as goal

pub returns-clause-spelled : goal.returns-clause-spelled
returns-clause-spelled c = is_spelled_done c.args.body.now c.answered_of.result (λ i. omega (arith, c.type_inv.body i)) c.answered_of.ensures

pub returns-clause-all : goal.returns-clause-all
returns-clause-all c = λ query done spells. subst (λ read. Gives (λ m. m) c.answered_of.result read) (done_read c.args.body.now query done spells) c.answered_of.ensures
