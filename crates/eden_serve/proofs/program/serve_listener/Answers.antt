-- The lines are run until the input ends; nothing is written.
use Rattle.std.proofs.Common.{subst, sym}
use Rattle.eden_serve.specs.Endings.{ServingEnds}
use Rattle.eden_serve.proofs.program.serve_listener.Goals as goal

pub returns-in-Input : goal.returns-in-Input
returns-in-Input g c = record {
  ends = subst
      (λ until. ServingEnds c.args.listening.opened.labels c.args.listening.opened.line until (g.I.Read.remaining c.args.input.now) (g.W.Write.contents c.args.writer.now) (g.W.Write.contents c.args.writer.now) c.serve_input.result)
      (sym c.in-Input.is) (c.serve_input.ensures (g.W.Write.contents c.args.writer.now));
}
