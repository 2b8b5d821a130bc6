use Rattle.eden_serve.proofs.connections.serve_locked.Goals as goal

pub returns-in-Ok : goal.returns-in-Ok
returns-in-Ok g c = c.end.ensures c.args.lines.labels c.args.lines.from c.args.desks _ c.in-Ok.ensures.ran

-- nothing is written
pub returns-in-Err : goal.returns-in-Err
returns-in-Err g c = c.in-Err.ensures.unwritten _ c.args.lines.labels c.args.lines.from _
