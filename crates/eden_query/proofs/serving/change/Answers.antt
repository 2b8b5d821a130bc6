-- the change was done, also if nothing is said of it
use Rattle.std.proofs.Common.{inr}
use Rattle.eden_ids.proofs.Fronts.{on_err}
use Rattle.eden_query.proofs.Asking.{change_does}
use Rattle.eden_query.specs.Servers.{Does}
use Rattle.eden_query.proofs.serving.change.Goals as goal

pub returns-in_err-append_done-clause-left : goal.returns-in_err-append_done-clause-left
returns-in_err-append_done-clause-left g c =
    on_err c.from_residual-in_err-append_done.result
    (inr (change_does g.N.Naming.id g.T.Served.stands_for (Does g.T.Served.hold_gives g.T.Served.apply_gives 0) c.args.server.now c.apply.new.self c.args.doing.now
    c.in_ok-answer.answer c.of.result c.of.ensures.exact (c.in_ok-answer.answer, c.in_ok-answer.ensures.given) c.in_ok-answer.ensures.stands
    c.in_ok-answer.ensures.answer c.append_done.ensures.spelled))

pub returns-clause-done : goal.returns-clause-done
returns-clause-done g c =
    change_does g.N.Naming.id g.T.Served.stands_for (Does g.T.Served.hold_gives g.T.Served.apply_gives 0) c.args.server.now c.apply.new.self c.args.doing.now
    c.in_ok-answer.answer c.of.result c.of.ensures.exact (c.in_ok-answer.answer, c.in_ok-answer.ensures.given) c.in_ok-answer.ensures.stands
    c.in_ok-answer.ensures.answer c.append_done.ensures.spelled
