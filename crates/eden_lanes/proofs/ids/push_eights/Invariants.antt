use Rattle.std.proofs.Common.{◌≡◌, ◌*◌}
use Rattle.eden_lanes.proofs.Growing.{ids_among}
use Rattle.eden_lanes.proofs.ids.push_eights.Given as given

abbrev pub invariant-loop-eight : given.invariant-loop-eight
invariant-loop-eight l = l.found.items ≡ ids_among (8 * l.eight) l.a l.b
