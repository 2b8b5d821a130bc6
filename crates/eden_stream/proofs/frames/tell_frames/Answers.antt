-- The telling ends as the pumping of its frames does.
use Rattle.std.proofs.Common.{sym, ◌∙◌}
use Rattle.eden_stream.proofs.FrameEndings.{own_end}
use Rattle.eden_stream.proofs.frames.tell_frames.Goals as goal

pub returns-clause-ends : goal.returns-clause-ends
returns-clause-ends g c = λ before told. (c.pump_items.result, c.serve_outcome.ensures, c.pump_items.ensures.ends before told)

pub returns-clause-read : goal.returns-clause-read
returns-clause-read g c = λ e. c.pump_items.ensures.read ((own_end c.pump_items.result).read (sym c.serve_outcome.ensures ∙ e))

pub returns-clause-write : goal.returns-clause-write
returns-clause-write g c = λ e. c.pump_items.ensures.write ((own_end c.pump_items.result).write (sym c.serve_outcome.ensures ∙ e))

pub returns-clause-turns_spent : goal.returns-clause-turns_spent
returns-clause-turns_spent g c = λ e. c.pump_items.ensures.turns_spent ((own_end c.pump_items.result).turns_spent (sym c.serve_outcome.ensures ∙ e))
