-- A line that the machine refuses.
use Rattle.eden_stream.proofs.ScriptEnds.{line_refused}
use Rattle.eden_stream.proofs.machine.ScriptedTellerLinesUnit.answer.Goals as goal

pub returns-in-BadLine : goal.returns-in-BadLine
returns-in-BadLine g c = λ before items sent told.
    line_refused g.M.LineMachine.stands_for g.M.LineMachine.refused before c.args.machine.now c.answer.new.self (g.met.M.LineMachine.lawful c.args.machine.now) items
    c.args.line.now sent c.args.text.now.items c.answer.new.text.items told c.in-BadLine.ensures
