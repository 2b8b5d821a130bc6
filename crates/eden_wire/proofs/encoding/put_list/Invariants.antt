use Rattle.std.proofs.Common.{◌≡◌, ◌++◌, length, take}
use Rattle.std.specs.List.{flat_map}
use Rattle.std.specs.Int.{w32, to_be_bytes}
use Rattle.eden_ids.specs.Fronts.{KeepsFront}
use Rattle.eden_messages.specs.Spells.{marked_bytes}
use Rattle.eden_wire.proofs.encoding.put_list.Given as goal

abbrev pub invariant-loop-marked : goal.invariant-loop-marked
invariant-loop-marked l =
    (l.out.items ≡ l.fn.out.items ++ (to_be_bytes w32 (length l.list) ++ flat_map marked_bytes (take l.marked-index l.list)))
    × KeepsFront l.fn.out.items l.out.items
