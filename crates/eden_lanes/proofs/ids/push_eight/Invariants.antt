use Rattle.std.proofs.Common.{◌≡◌, ◌+◌}
use Rattle.eden_lanes.proofs.Growing.{ids_among}
use Rattle.eden_lanes.proofs.ids.push_eight.Given as given

abbrev pub invariant-loop-place : given.invariant-loop-place
invariant-loop-place l = l.found.items ≡ ids_among (l.row + l.place) l.a l.b
