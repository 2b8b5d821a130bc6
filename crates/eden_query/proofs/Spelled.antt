-- What a spellable world replies has a spelling.
use Rattle.std.proofs.Common.{◌≡◌, ◌∙◌, subst, sym}
use Rattle.eden_messages.specs.declared.message.Reply.{Reply}
use Rattle.eden_messages.specs.declared.message.Request.{Request}
use Rattle.eden_messages.specs.Spells.{IsRequest, SpellsReply, reply_bytes}
use Rattle.eden_messages.proofs.Replying.{reply_spelled}
use Rattle.eden_query.specs.Answers.{IsReplyOfWorld}

pub told_spelled : (request : Request) (right reply : Reply) → IsRequest request → reply ≡ right → IsReplyOfWorld request right → SpellsReply (reply_bytes reply) reply
told_spelled request right reply asked same is =
    subst (λ reply. SpellsReply (reply_bytes reply) reply) (sym (same ∙ is.3)) (reply_spelled is.1.0 is.0 request is.1.1 is.2 asked)
