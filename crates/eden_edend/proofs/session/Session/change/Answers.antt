use Rattle.std.proofs.Common.{sym, ◌∙◌}
use Rattle.eden_edend.proofs.Acting.{change_made, change_refused}
use Rattle.eden_edend.proofs.session.Session.change.Goals as goal

pub returns-in_ok-answer-in-Ok : goal.returns-in_ok-answer-in-Ok
returns-in_ok-answer-in-Ok c =
    change_made c.args.self.now.mount c.in-Some.mount c.apply.new.self c.args.self.now.objects c.args.line c.in-Ok.change c.in_ok-answer-in-Ok.answer
    c.in-Some.is (sym c.in-Ok.is ∙ c.in_ok-change.ensures) c.in_ok-answer-in-Ok.ensures.answers c.in_ok-answer-in-Ok.ensures.stands

pub returns-in-Err : goal.returns-in-Err
returns-in-Err c =
    change_refused c.args.self.now.mount c.in-Some.mount c.args.self.now.objects c.args.line c.in-Err.cause c.in-Some.is (sym c.in-Err.is ∙ c.in_ok-change.ensures)
