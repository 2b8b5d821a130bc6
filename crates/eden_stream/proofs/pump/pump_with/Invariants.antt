-- The account of the pumping, and what its reads have counted.
use Rattle.std.proofs.Common.{◌+◌, ◌-◌, ◌*◌, ◌≤◌, [], length}
use Rattle.eden_stream.specs.Counts.{RoseBy}
use Rattle.eden_stream.specs.Counts.{Grew}
use Rattle.eden_stream.specs.Pumps.{Ran, Tellings}
use Rattle.eden_stream.proofs.pump.pump_with.Given as goal

abbrev pub invariant-loop-turn : goal.invariant-loop-turn
invariant-loop-turn g l = record {
  room : l.count + length l.held ≤ 65536 * l.reads;
  few : l.reads ≤ l.most_reads;
  called : RoseBy l.reads (g.R.Faults.called l.initial.reader) (g.R.Faults.called l.reader);
  turns : g.R.Faults.called l.reader ≤ g.R.Faults.called l.initial.reader + l.reads;
  read_grew : Grew (g.R.Faults.failed l.initial.reader) (g.R.Faults.failed l.reader);
  write_grew : Grew (g.W.Faults.failed l.initial.writer) (g.W.Faults.failed l.writer);
  ran : (before : _) → (g.S.Teller.story l.teller before l.initial.server).told [] []
      → Ran g.F.Framing.grammar (Tellings (g.S.Teller.story l.teller before l.server)) (g.R.Read.remaining l.initial.reader) (g.R.Read.remaining l.reader)
      (g.W.Write.contents l.initial.writer) (g.W.Write.contents l.writer) l.ended l.count l.held l.text.items;
}

abbrev pub decreases-loop-turn : goal.decreases-loop-turn
decreases-loop-turn g l = 65537 * (l.most_reads - l.reads) + length l.held
