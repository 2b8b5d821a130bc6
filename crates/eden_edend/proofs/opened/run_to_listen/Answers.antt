use Rattle.std.proofs.Common.{rules, refl}
use Rattle.eden_script.specs.ScriptText.{script_text}
use Rattle.eden_script.specs.Sessions.{session_over}
use Rattle.eden_edend.proofs.OpeningEnds.{ended_at, ended_early, ended_unopened}
use Rattle.eden_edend.proofs.opened.run_to_listen.Goals as goal

pub returns-in-Ok-clause-ends : goal.returns-in-Ok-clause-ends
returns-in-Ok-clause-ends g c =
    ended_unopened _ _ _ _ _ c.in-Ok.count _
    (c.in-Ok.ensures.ends (script_text (session_over c.args.objects.store c.args.objects.labels)) (c.new.ensures, refl)) c.saturating_add.ensures

pub returns-in-Err-BadLine-clause-ends : goal.returns-in-Err-BadLine-clause-ends
returns-in-Err-BadLine-clause-ends g c =
    let script = script_text (session_over c.args.objects.store c.args.objects.labels) in
    let opening = c.run_lines.new.machine in
    ended_at script _ _ _ _ opening.session.mount opening.session.objects opening.listens c.in-Err-BadLine.line c.in-Err-BadLine.field-0 c.open.result (search rules)
    (c.in-Err-BadLine.ensures.ends script (c.new.ensures, refl))
    (c.in-Err-BadLine.ensures.left c.in-Err-BadLine.line (search rules) script (c.new.ensures, refl))
    c.open.ensures.listens c.open.ensures.line c.open.ensures.mount c.open.ensures.labels c.open.ensures.refused

pub returns-in-Err : goal.returns-in-Err
returns-in-Err g c = record {
  ends = ended_early _ _ _ _ _ c.in-Err.fault (c.in-Err.ensures.ends (script_text (session_over c.args.objects.store c.args.objects.labels)) (c.new.ensures, refl));
  read = search rules;
  write = search rules;
  turns_spent = search rules;
  turns = c.in-Err.ensures.turns;
}
