use Rattle.std.proofs.Common.{subst, arith}
use Rattle.eden_wire.specs.Reading.{Gives}
use Rattle.eden_wire.proofs.BodyLaws.{is_spelled_request, request_read}
use Rattle.eden_wire.proofs.decoding.decode_request.Goals as goal

pub returns-clause-spelled : goal.returns-clause-spelled
returns-clause-spelled c = is_spelled_request c.args.body.now c.request_of.result (λ i. omega (arith, c.type_inv.body i)) c.request_of.ensures

pub returns-clause-all : goal.returns-clause-all
returns-clause-all c = λ request spells. subst (λ read. Gives (λ m. m) c.request_of.result read) (request_read c.args.body.now request spells) c.request_of.ensures
