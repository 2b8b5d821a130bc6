use Rattle.std.proofs.Common.{subst}
use Rattle.eden_messages.specs.Spells.{SpellsReply}
use Rattle.eden_connect.proofs.Exchanging.{receives_frame}
use Rattle.eden_connect.proofs.link.read_reply.Goals as goal

pub returns-in-Ok : goal.returns-in-Ok
returns-in-Ok g c = (
  c.in_ok-body.body.items,
  subst (λ body. SpellsReply body c.in-Ok.reply) c.as_slice.ensures.value c.in-Ok.ensures.spelled,
  receives_frame _ _ _ _ c.in_ok-body.body.items _ c.in_ok-read_piece.ensures c.read_length-len.ensures c.in_ok-body.ensures.len c.in_ok-body.ensures.read,
)
