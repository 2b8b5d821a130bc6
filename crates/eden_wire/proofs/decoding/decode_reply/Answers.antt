use Rattle.std.proofs.Common.{subst, arith}
use Rattle.eden_wire.specs.Reading.{Gives}
use Rattle.eden_wire.proofs.BodyLaws.{is_spelled_reply, reply_read}
use Rattle.eden_wire.proofs.decoding.decode_reply.Goals as goal

pub returns-clause-spelled : goal.returns-clause-spelled
returns-clause-spelled c = is_spelled_reply c.args.body.now c.reply_of.result (λ i. omega (arith, c.type_inv.body i)) c.reply_of.ensures

pub returns-clause-all : goal.returns-clause-all
returns-clause-all c = λ reply spells. subst (λ read. Gives (λ m. m) c.reply_of.result read) (reply_read c.args.body.now reply spells) c.reply_of.ensures
