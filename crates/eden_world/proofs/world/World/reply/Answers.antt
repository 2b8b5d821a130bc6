use Rattle.eden_messages.proofs.Replying.{reply_spelled, spelled_as}
use Rattle.eden_world.proofs.world.World.reply.Goals as goal

pub returns-clause-spelled : goal.returns-clause-spelled
returns-clause-spelled g c =
    spelled_as c.replied.result _ c.replied.ensures
    (reply_spelled g.N.Naming.id c.args.self.now c.args.request.now c.world_law.ensures.world c.world_law.ensures.spellable c.request_text_law.ensures)
