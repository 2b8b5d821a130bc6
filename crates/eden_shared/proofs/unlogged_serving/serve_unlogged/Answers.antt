use Rattle.eden_shared.specs.Commands.{SaysReply}
use Rattle.eden_shared.specs.Gives.{IsMade, IsSaid}
use Rattle.eden_shared.specs.Reached.{IsReached}
use Rattle.eden_shared.proofs.Answered.{answers_none}
use Rattle.eden_shared.proofs.unlogged_serving.serve_unlogged.Goals as goal

pub returns-clause-ends : goal.returns-clause-ends
returns-clause-ends g c =
    c.tell_frames.ensures.ends c.args.writing.now
    (answers_none (SaysReply (IsSaid (IsReached g.N.Naming.id g.T.Served.stands_for g.L.Origin.opens) g.N.Naming.id g.T.Served.stands_for g.T.Served.held g.T.Served.hold_gives 0))
    (IsMade (IsReached g.N.Naming.id g.T.Served.stands_for g.L.Origin.opens) g.N.Naming.id g.T.Served.stands_for g.T.Served.apply_gives 0) c.args.writing.now)
