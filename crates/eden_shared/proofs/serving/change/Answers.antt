use Rattle.std.proofs.Common.{inr, refl}
use Rattle.eden_ids.proofs.Fronts.{on_err}
use Rattle.eden_wire.specs.declared.command.Command.TheVariants.{Do}
use Rattle.eden_shared.specs.Gives.{IsMade, IsSaid, IsTurnOf}
use Rattle.eden_shared.proofs.Carried.{changed_one, left_unsaid, made_in_order, unsaid}
use Rattle.eden_shared.proofs.serving.change.Goals as goal

pub returns-in_err-answer-clause-left : goal.returns-in_err-answer-clause-left
returns-in_err-answer-clause-left g c =
    on_err c.from_residual.result
    (left_unsaid (IsSaid (IsTurnOf g.T.Served.stored) g.N.Naming.id g.T.Served.stands_for g.T.Served.held g.T.Served.hold_gives c.args.desk.now.caller)
    (IsMade (IsTurnOf g.T.Served.stored) g.N.Naming.id g.T.Served.stands_for g.T.Served.apply_gives c.args.desk.now.caller) c.args.desk.now c.change.new.self (Do c.args.doing.now) _ refl c.in_err-answer.ensures.left)

pub append_done-requires : goal.append_done-requires
append_done-requires g c = record { fits = c.of.ensures.fits c.args.doing.now.query }

-- nothing was said of a change that was made
pub returns-in_err-append_done-clause-left : goal.returns-in_err-append_done-clause-left
returns-in_err-append_done-clause-left g c =
    on_err c.from_residual-in_err-append_done.result
    (inr (unsaid (IsSaid (IsTurnOf g.T.Served.stored) g.N.Naming.id g.T.Served.stands_for g.T.Served.held g.T.Served.hold_gives c.args.desk.now.caller)
    (IsMade (IsTurnOf g.T.Served.stored) g.N.Naming.id g.T.Served.stands_for g.T.Served.apply_gives c.args.desk.now.caller) c.args.desk.now c.change.new.self (Do c.args.doing.now) c.args.text.now.items _
    (changed_one (IsSaid (IsTurnOf g.T.Served.stored) g.N.Naming.id g.T.Served.stands_for g.T.Served.held g.T.Served.hold_gives c.args.desk.now.caller)
    (IsMade (IsTurnOf g.T.Served.stored) g.N.Naming.id g.T.Served.stands_for g.T.Served.apply_gives c.args.desk.now.caller) c.args.desk.now c.change.new.self c.args.doing.now _ c.in_ok-answer.answer c.of.result
    c.args.text.now.items _ c.of.ensures.exact c.in_ok-answer.ensures.caller c.in_ok-answer.ensures.share c.in_ok-answer.ensures.log c.in_ok-answer.ensures.answer
    (made_in_order (IsTurnOf g.T.Served.stored) g.N.Naming.id g.T.Served.stands_for g.T.Served.apply_gives c.args.desk.now.caller _ _ _ c.in_ok-answer.ensures.answer)
    c.append_done.ensures.spelled refl)))

pub returns-clause-takes : goal.returns-clause-takes
returns-clause-takes g c =
    changed_one (IsSaid (IsTurnOf g.T.Served.stored) g.N.Naming.id g.T.Served.stands_for g.T.Served.held g.T.Served.hold_gives c.args.desk.now.caller)
    (IsMade (IsTurnOf g.T.Served.stored) g.N.Naming.id g.T.Served.stands_for g.T.Served.apply_gives c.args.desk.now.caller) c.args.desk.now c.change.new.self c.args.doing.now _ c.in_ok-answer.answer c.of.result
    c.args.text.now.items c.append_done.new.text.items c.of.ensures.exact c.in_ok-answer.ensures.caller c.in_ok-answer.ensures.share c.in_ok-answer.ensures.log c.in_ok-answer.ensures.answer
    (made_in_order (IsTurnOf g.T.Served.stored) g.N.Naming.id g.T.Served.stands_for g.T.Served.apply_gives c.args.desk.now.caller _ _ _ c.in_ok-answer.ensures.answer)
    c.append_done.ensures.spelled c.in_ok-append_done.ensures.exact
