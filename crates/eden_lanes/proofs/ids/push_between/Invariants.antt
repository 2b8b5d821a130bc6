use Rattle.std.proofs.Common.{◌≡◌}
use Rattle.eden_lanes.proofs.Growing.{ids_among}
use Rattle.eden_lanes.proofs.ids.push_between.Given as given

abbrev pub invariant-loop-row : given.invariant-loop-row
invariant-loop-row l = l.found.items ≡ ids_among l.row l.a l.b
