use Rattle.std.proofs.Common.{◌≡◌, ◌*◌, length}
use Rattle.eden_lanes.proofs.Growing.{ids_among}
use Rattle.eden_lanes.proofs.ids.count_eights.Given as given

abbrev pub invariant-loop-eight : given.invariant-loop-eight
invariant-loop-eight l = l.count ≡ length (ids_among (8 * l.eight) l.a l.b)
