use Rattle.std.proofs.Common.{◌≡◌, length}
use Rattle.rig_lanes.proofs.column_of.Given as given

abbrev pub invariant-loop-row : given.invariant-loop-row
invariant-loop-row l = length l.column ≡ l.row
