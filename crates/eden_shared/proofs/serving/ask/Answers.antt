use Rattle.std.proofs.Common.{inr, refl, ap}
use Rattle.eden_ids.proofs.Fronts.{on_err}
use Rattle.eden_logs.specs.declared.call.Call.TheVariants as calls
use Rattle.eden_messages.specs.declared.message.Request.{Request}
use Rattle.eden_wire.specs.declared.command.Command.TheVariants.{Ask}
use Rattle.eden_shared.specs.Gives.{IsMade, IsSaid, IsTurnOf}
use Rattle.eden_shared.proofs.Carried.{asked_one, left_unsaid, unsaid}
use Rattle.eden_shared.proofs.Telling.{said_of_hold}
use Rattle.eden_shared.proofs.serving.ask.Goals as goal

pub returns-in_err-ticketed-clause-left : goal.returns-in_err-ticketed-clause-left
returns-in_err-ticketed-clause-left g c =
    on_err c.from_residual.result
    (left_unsaid (IsSaid (IsTurnOf g.T.Served.stored) g.N.Naming.id g.T.Served.stands_for g.T.Served.held g.T.Served.hold_gives c.args.desk.now.caller)
    (IsMade (IsTurnOf g.T.Served.stored) g.N.Naming.id g.T.Served.stands_for g.T.Served.apply_gives c.args.desk.now.caller) c.args.desk.now c.ask_held.new.self (Ask c.args.asked) _
    (ap (λ (r : Request). calls.Ask r) c.into_request-request.ensures.request) c.in_err-ticketed.ensures.left)

-- nothing was said of a question that was answered
pub returns-in_err-append_beside-clause-left : goal.returns-in_err-append_beside-clause-left
returns-in_err-append_beside-clause-left g c =
    on_err c.from_residual-in_err-append_beside.result
    (inr (unsaid (IsSaid (IsTurnOf g.T.Served.stored) g.N.Naming.id g.T.Served.stands_for g.T.Served.held g.T.Served.hold_gives c.args.desk.now.caller)
    (IsMade (IsTurnOf g.T.Served.stored) g.N.Naming.id g.T.Served.stands_for g.T.Served.apply_gives c.args.desk.now.caller) c.args.desk.now c.ask_held.new.self (Ask c.args.asked) c.args.text.now.items _
    (asked_one (IsSaid (IsTurnOf g.T.Served.stored) g.N.Naming.id g.T.Served.stands_for g.T.Served.held g.T.Served.hold_gives c.args.desk.now.caller)
    (IsMade (IsTurnOf g.T.Served.stored) g.N.Naming.id g.T.Served.stands_for g.T.Served.apply_gives c.args.desk.now.caller) c.args.desk.now c.ask_held.new.self c.args.asked _ _ _ _ _
    c.args.text.now.items _ c.into_request-request.ensures.request c.into_request-request.ensures.wants c.in_ok-ticketed.ensures.caller c.in_ok-ticketed.ensures.share
    c.in_ok-ticketed.ensures.log
    (said_of_hold (IsTurnOf g.T.Served.stored) g.N.Naming.id g.T.Served.stands_for g.T.Served.held g.T.Served.hold_gives _ _ _ _ _ c.in_ok-ticketed.ensures.held _ _ _
    c.in_ok-ticketed.ensures.reply refl)
    c.in_ok-ticketed.ensures.spelled refl)))

pub returns-clause-takes : goal.returns-clause-takes
returns-clause-takes g c =
    asked_one (IsSaid (IsTurnOf g.T.Served.stored) g.N.Naming.id g.T.Served.stands_for g.T.Served.held g.T.Served.hold_gives c.args.desk.now.caller)
    (IsMade (IsTurnOf g.T.Served.stored) g.N.Naming.id g.T.Served.stands_for g.T.Served.apply_gives c.args.desk.now.caller) c.args.desk.now c.ask_held.new.self c.args.asked _ _ _ _ _
    c.args.text.now.items c.append_beside.new.text.items c.into_request-request.ensures.request c.into_request-request.ensures.wants c.in_ok-ticketed.ensures.caller c.in_ok-ticketed.ensures.share
    c.in_ok-ticketed.ensures.log
    (said_of_hold (IsTurnOf g.T.Served.stored) g.N.Naming.id g.T.Served.stands_for g.T.Served.held g.T.Served.hold_gives _ _ _ _ _ c.in_ok-ticketed.ensures.held _ _ _
    c.in_ok-ticketed.ensures.reply refl)
    c.in_ok-ticketed.ensures.spelled c.in_ok-append_beside.ensures.exact
