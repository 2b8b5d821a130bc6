use Rattle.std.proofs.Common.{refl, sym, ◌∙◌}
use Rattle.eden_ids.proofs.Fronts.{kept}
use Rattle.eden_edend.proofs.LineAnswers.{refuses_unread, takes_command}
use Rattle.eden_edend.proofs.session.SessionLineMachine.answer.Goals as goal

pub returns-in-Ok-None : goal.returns-in-Ok-None
returns-in-Ok-None c = λ script stands. (
  refuses_unread c.args.self.now.mount c.args.self.now.objects script c.args.line.now stands c.requires (sym c.in-Ok-None.field-0-is ∙ c.in-Ok-None.ensures),
  refl,
  stands,
)

pub returns-in-Ok : goal.returns-in-Ok
returns-in-Ok c = λ script stands.
    takes_command c.args.self.now.mount c.execute.new.self.mount c.args.self.now.objects c.execute.new.self.objects script c.args.line.now c.args.text.now.items c.execute.new.text.items c.in-Ok-Some.command
    stands c.requires
    (sym c.in-Ok-Some.field-0-is ∙ c.in-Ok-Some.ensures)
    c.in-Ok.ensures.told

pub returns-in-Err-execute : goal.returns-in-Err-execute
returns-in-Err-execute c = λ script stands. kept c.args.text.now.items c.execute.new.text.items c.execute.ensures.front
