use Rattle.eden_follow.proofs.Marked.{told_in_all, untold_in_all}
use Rattle.eden_follow.proofs.marking.is_told.Goals as goal

pub returns-clause-told : goal.returns-clause-told
returns-clause-told c = λ e. told_in_all c.args.ticket c.args.reply.now c.args.rows.now _ _ c.rows_under-start.ensures (c.has_reply.ensures.told e)

pub returns-clause-untold : goal.returns-clause-untold
returns-clause-untold c = λ e. untold_in_all c.args.ticket c.args.reply.now c.args.rows.now _ _ c.rows_under-start.ensures (c.has_reply.ensures.untold e)
