use Rattle.std.proofs.Common.{◌≡◌, length}
use Rattle.eden_lanes.proofs.Growing.{ids_among}
use Rattle.eden_lanes.proofs.ids.count_between.Given as given

abbrev pub invariant-loop-row : given.invariant-loop-row
invariant-loop-row l = l.count ≡ length (ids_among l.row l.a l.b)
