use Rattle.std.proofs.Common.{◌≡◌}
use Rattle.std.specs.Prelude.{None}
use Rattle.eden_lanes.proofs.Finding.{first_in}
use Rattle.eden_lanes.proofs.find.find_between.Given as given

abbrev pub invariant-loop-row : given.invariant-loop-row
invariant-loop-row l = first_in l.row l.id l.column ≡ None
