use Rattle.std.proofs.Common.{◌≡◌, ◌≤◌, length, take}
use Rattle.std.specs.List.{flat_map}
use Rattle.eden_wire.specs.Commands.{object}
use Rattle.eden_wire.proofs.command.len_of_objects.Given as goal

abbrev pub invariant-loop-object : goal.invariant-loop-object
invariant-loop-object l = (l.len ≡ length (flat_map object.spell (take l.object-index l.objects))) × (l.len ≤ 16777216)
