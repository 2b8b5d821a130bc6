use Rattle.std.proofs.Common.{◌-◌, ◌≤◌, length}
use Rattle.std.specs.Io.KnownBytes.{Consumes}
use Rattle.eden_connect.proofs.link.read_body.Given as goal

-- what has come so far
abbrev pub invariant-loop-body : goal.invariant-loop-body
invariant-loop-body g l = record {
  within : length l.body.items ≤ l.len;
  read : Consumes (g.I.Read.remaining l.initial.reader) (g.I.Read.remaining l.reader) l.body.items;
}

abbrev pub decreases-loop-body : goal.decreases-loop-body
decreases-loop-body g l = l.len - length l.body.items
