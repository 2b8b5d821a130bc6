-- Each line is printed or refused, and the machine stands for the same script ever after.
use Rattle.std.proofs.Common.{[], ◌∷◌, ◌++◌, ap, ◌∙◌, append_assoc}
use Rattle.test_devices.proofs.line_tests.EchoLineMachine.answer.Goals as goal

pub returns-in-Ok-push : goal.returns-in-Ok-push
returns-in-Ok-push c =
    let line = c.args.line.now in
    let text = c.args.text.now.items in
    λ script echoes. record {
      printed = line ++ 10 ∷ [];
      next = script;
      stands = echoes;
      appended = c.in-Ok-push.ensures.items ∙ ap (λ written. written ++ 10 ∷ []) c.in-Ok.ensures.items ∙ append_assoc text line (10 ∷ []);
      goes_on = λ more. echoes.2 line more c.requires c.if-line-eq33.false;
    }
