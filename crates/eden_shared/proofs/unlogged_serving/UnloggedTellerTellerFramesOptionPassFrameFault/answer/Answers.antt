use Rattle.eden_shared.specs.Commands.{SaysReply}
use Rattle.eden_shared.specs.Gives.{IsMade, IsSaid}
use Rattle.eden_shared.specs.Reached.{IsReached}
use Rattle.eden_shared.proofs.Answered.{unlogged_tells}
use Rattle.eden_shared.proofs.unlogged_serving.UnloggedTellerTellerFramesOptionPassFrameFault.answer.Goals as goal

pub returns : goal.returns
returns g c = λ before items sent answers.
    unlogged_tells (SaysReply (IsSaid (IsReached g.N.Naming.id g.T.Served.stands_for g.L.Origin.opens) g.N.Naming.id g.T.Served.stands_for g.T.Served.held g.T.Served.hold_gives 0))
    (IsMade (IsReached g.N.Naming.id g.T.Served.stands_for g.L.Origin.opens) g.N.Naming.id g.T.Served.stands_for g.T.Served.apply_gives 0)
    before c.args.writing.now c.answer_body.new.writing items c.args.body.now sent c.args.text.now.items c.answer_body.new.text.items c.answer_body.result
    c.answer_body.ensures answers
