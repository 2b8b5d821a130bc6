-- What is written so far is the front of the text. A turn that writes nothing takes one of the tries.
use Rattle.std.proofs.Common.{length, take, ◌-◌, ◌+◌, ◌*◌, ◌≤◌}
use Rattle.std.specs.Io.KnownBytes.{Appends}
use Rattle.eden_stream.proofs.output.print.Given as goal

abbrev pub invariant-loop-at : goal.invariant-loop-at
invariant-loop-at g l = record {
  within : l.at ≤ length l.text;
  few : l.tries ≤ 1000;
  written : Appends (g.W.Write.contents l.initial.writer) (g.W.Write.contents l.writer) (take l.at l.text);
}

abbrev pub decreases-loop-at : goal.decreases-loop-at
decreases-loop-at g l = 1001 * (length l.text - l.at) + l.tries
