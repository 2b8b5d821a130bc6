use Rattle.std.specs.Io.KnownBytes.{Keeps}
use Rattle.eden_serve.proofs.stopping.StoppableWrite.write.Given as goal

-- the device has taken nothing so far
abbrev pub invariant-loop : goal.invariant-loop
invariant-loop g l = Keeps (g.D.Write.contents l.initial.self.device) (g.D.Write.contents l.self.device)
