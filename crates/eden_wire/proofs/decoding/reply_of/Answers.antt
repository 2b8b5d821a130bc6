use Rattle.std.proofs.Common.{rules, ◌∙◌}
use Rattle.eden_wire.proofs.Whole.{reply_whole}
use Rattle.eden_wire.proofs.decoding.reply_of.Goals as goal

pub returns-in_default : goal.returns-in_default
returns-in_default c = λ told. reply_whole c.args.body.now ∙ rw c.in_ok-tag.ensures (search rules)
