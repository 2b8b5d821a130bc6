use Rattle.std.proofs.Common.{◌≡◌, ◌++◌, length, take}
use Rattle.std.specs.List.{flat_map}
use Rattle.std.specs.Int.{w32, to_be_bytes}
use Rattle.eden_ids.specs.Fronts.{KeepsFront}
use Rattle.eden_wire.specs.Commands.{object}
use Rattle.eden_wire.proofs.command.put_objects.Given as goal

abbrev pub invariant-loop-object : goal.invariant-loop-object
invariant-loop-object l =
    (l.out.items ≡ l.fn.out.items ++ (to_be_bytes w32 (length l.objects) ++ flat_map object.spell (take l.object-index l.objects)))
    × KeepsFront l.fn.out.items l.out.items
