use Rattle.eden_script.specs.ScriptText.{script_text}
use Rattle.eden_script.specs.Sessions.{session_over}
use Rattle.eden_edend.proofs.script.run_over.Goals as goal

pub returns-clause-ends : goal.returns-clause-ends
returns-clause-ends g c = c.run_lines.ensures.ends (script_text (session_over c.args.objects.store c.args.objects.labels)) c.new-session.ensures
