use Rattle.eden_shared.specs.Reached.{IsReached}
use Rattle.eden_shared.proofs.Telling.{told_of_hold, told_spelled}
use Rattle.eden_shared.proofs.unlogged.Unlogged.ask.Goals as goal

pub returns-clause-spelled : goal.returns-clause-spelled
returns-clause-spelled g c =
    told_spelled (IsReached g.N.Naming.id g.T.Served.stands_for g.L.Origin.opens) g.N.Naming.id g.T.Served.stands_for g.T.Served.held g.T.Served.hold_gives _ _ _ _ _
    c.in_ok-raw.ensures.1 g.T.Served.spelled c.answer_request.result c.answer_request.ensures.spelled

pub returns-clause-told : goal.returns-clause-told
returns-clause-told g c =
    told_of_hold (IsReached g.N.Naming.id g.T.Served.stands_for g.L.Origin.opens) g.N.Naming.id g.T.Served.stands_for g.T.Served.held g.T.Served.hold_gives _ _ _ _ _
    c.in_ok-raw.ensures.1 c.answer_request.result c.answer_request.ensures.reply
