use Rattle.eden_shared.specs.Reached.{IsReached}
use Rattle.eden_shared.proofs.Telling.{says_alone, says_of_hold}
use Rattle.eden_shared.proofs.unlogged_serving.ask.Goals as goal

pub returns-in-Whole-clause-said : goal.returns-in-Whole-clause-said
returns-in-Whole-clause-said g c =
    says_alone (IsReached g.N.Naming.id g.T.Served.stands_for g.L.Origin.opens) g.N.Naming.id g.T.Served.stands_for g.T.Served.held g.T.Served.hold_gives 0
    c.in_ok-reply-in-Whole.ensures.told.0 c.args.asked.question _ c.into_request-request.ensures.request c.in_ok-reply-in-Whole.reply c.in_ok-reply-in-Whole.ensures.told.1
    c.in_ok-reply-in-Whole.ensures.spelled c.args.text.now.items c.append_wanted.new.text.items _ c.into_request-request.ensures.wants c.in-Whole.is
    c.in_ok-append_wanted-in-Whole.ensures.exact

pub returns-clause-said : goal.returns-clause-said
returns-clause-said g c =
    says_of_hold (IsReached g.N.Naming.id g.T.Served.stands_for g.L.Origin.opens) g.N.Naming.id g.T.Served.stands_for g.T.Served.held g.T.Served.hold_gives 0 _
    c.args.asked.question _ _ c.into_request-request.ensures.request c.into_request-request.ensures.wants c.append_answer.result c.args.text.now.items
    c.append_answer.new.text.items _ _ c.request_text_law.ensures c.in_ok-raw-in-Attributes.ensures.1 g.T.Served.spelled
    c.append_answer.ensures.exact
