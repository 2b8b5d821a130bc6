use Rattle.std.proofs.Common.{inl, inr, rules}
use Rattle.eden_query.proofs.serving.answer_body.Goals as goal

-- nothing was said: the command was done once, or not at all
pub returns-in-Err-answer_command-clause-done : goal.returns-in-Err-answer_command-clause-done
returns-in-Err-answer_command-clause-done g c = elim c.in-Err-answer_command.ensures.left [
  | inl same ↦ inl same
  | inr done ↦ inr (record { command = c.in-Ok.command; spelled = search rules; done = done })
]
