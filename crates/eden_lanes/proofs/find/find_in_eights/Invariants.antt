use Rattle.std.proofs.Common.{◌≡◌, ◌*◌}
use Rattle.std.specs.Prelude.{None}
use Rattle.eden_lanes.proofs.Finding.{first_in}
use Rattle.eden_lanes.proofs.find.find_in_eights.Given as given

abbrev pub invariant-loop-eight : given.invariant-loop-eight
invariant-loop-eight l = first_in (8 * l.eight) l.id l.column ≡ None
