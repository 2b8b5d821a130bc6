use Rattle.std.proofs.Common.{◌≡◌}
use Rattle.eden_lanes.proofs.KindLemmas.{kinds_among}
use Rattle.eden_lanes.proofs.kinds.push_between.Given as given

abbrev pub invariant-loop-row : given.invariant-loop-row
invariant-loop-row l = l.found.items ≡ kinds_among l.row l.a l.b
