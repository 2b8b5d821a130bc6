-- The run of a script ends as the answering of its lines does.
use Rattle.std.proofs.Common.{subst}
use Rattle.eden_stream.specs.LineEnds.{EndsTellingLines}
use Rattle.eden_stream.specs.internal.LineSteps.{line_story}
use Rattle.eden_stream.proofs.ScriptEnds.{run_ends, run_left, run_start}
use Rattle.eden_stream.proofs.machine.run_lines.Goals as goal

pub returns-clause-ends : goal.returns-clause-ends
returns-clause-ends g c = λ script s.
    let stands = g.M.LineMachine.stands_for in
    let refused = g.M.LineMachine.refused in
    run_ends stands refused c.args.machine.now c.tell_lines.new.server (g.met.M.LineMachine.lawful c.tell_lines.new.server) script s _ _ _ _ c.tell_lines.result
    (c.tell_lines.ensures.ends c.args.machine.now (run_start stands refused c.args.machine.now))

pub returns-clause-left : goal.returns-clause-left
returns-clause-left g c = λ number e script s.
    let stands = g.M.LineMachine.stands_for in
    let refused = g.M.LineMachine.refused in
    run_left stands refused c.args.machine.now c.tell_lines.new.server (g.met.M.LineMachine.lawful c.tell_lines.new.server) script s _ _ _ _ number
    (subst (EndsTellingLines (line_story stands refused c.args.machine.now c.tell_lines.new.server) _ _ _ _) e (c.tell_lines.ensures.ends c.args.machine.now (run_start stands refused c.args.machine.now)))
