-- The answering of lines ends as the pumping of them does.
use Rattle.std.proofs.Common.{sym, ◌∙◌, subst}
use Rattle.eden_stream.specs.LineEnds.{EndsTellingLines}
use Rattle.eden_stream.proofs.LineEndings.{own_end, tell_ends}
use Rattle.eden_stream.proofs.lines.tell_lines.Goals as goal

pub returns-clause-ends : goal.returns-clause-ends
returns-clause-ends g c = λ before s.
    let story = g.S.Teller.story c.args.teller.now before c.pump_within.new.server in
    let r0 = g.R.Read.remaining c.args.reader.now in
    let r1 = g.R.Read.remaining c.pump_within.new.reader in
    let w0 = g.W.Write.contents c.args.writer.now in
    let w1 = g.W.Write.contents c.pump_within.new.writer in
    subst (EndsTellingLines story r0 r1 w0 w1) (sym c.run_outcome.ensures) (tell_ends story (g.met.S.Teller.lawful c.args.teller.now before c.pump_within.new.server).stops r0 r1 w0 w1 c.pump_within.result (c.pump_within.ensures.ends before s))

pub returns-clause-read : goal.returns-clause-read
returns-clause-read g c = λ e. c.pump_within.ensures.read ((own_end c.pump_within.result).read (sym c.run_outcome.ensures ∙ e))

pub returns-clause-write : goal.returns-clause-write
returns-clause-write g c = λ e. c.pump_within.ensures.write ((own_end c.pump_within.result).write (sym c.run_outcome.ensures ∙ e))

pub returns-clause-turns_spent : goal.returns-clause-turns_spent
returns-clause-turns_spent g c = λ e. c.pump_within.ensures.turns_spent ((own_end c.pump_within.result).turns_spent (sym c.run_outcome.ensures ∙ e))
