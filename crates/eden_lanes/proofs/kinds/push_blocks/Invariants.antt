use Rattle.std.proofs.Common.{◌≡◌, ◌*◌}
use Rattle.eden_lanes.proofs.KindLemmas.{kinds_among}
use Rattle.eden_lanes.proofs.kinds.push_blocks.Given as given

abbrev pub invariant-loop-block : given.invariant-loop-block
invariant-loop-block l = l.found.items ≡ kinds_among (32 * l.block) l.a l.b
