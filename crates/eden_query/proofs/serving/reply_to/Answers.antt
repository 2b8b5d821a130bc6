use Rattle.std.proofs.Common.{◌∙◌, ap, sym, subst}
use Rattle.eden_messages.specs.Spells.{SpellsReply, reply_bytes}
use Rattle.eden_messages.proofs.Replying.{reply_spelled, spelled_as}
use Rattle.eden_query.specs.Raws.{patterns_of, told}
use Rattle.eden_query.proofs.serving.reply_to.Goals as goal

pub returns-clause-spelled : goal.returns-clause-spelled
returns-clause-spelled g c =
    let some = c.hold.ensures.world in
    let law = g.T.Served.spelled c.args.server.now some.0 some.1 in
    let right = ap (λ objects. told objects (patterns_of c.args.request.now) c.in_ok-raw.raw) c.in_ok-raw.ensures.objects ∙ c.in_ok-raw.ensures.replies some.0 some.1 in
    spelled_as c.answer_request.result _ c.answer_request.ensures.reply
    (subst (λ reply. SpellsReply (reply_bytes reply) reply) (sym right)
    (reply_spelled law.0.0 some.0 c.args.request.now law.0.1 law.1 c.request_text_law.ensures))
