use Rattle.std.proofs.Common.{◌≡◌, ◌++◌, length, take}
use Rattle.std.specs.List.{flat_map}
use Rattle.std.specs.Int.{w32, to_be_bytes}
use Rattle.eden_ids.specs.Fronts.{KeepsFront}
use Rattle.eden_messages.specs.Spells.{text_bytes}
use Rattle.eden_wire.proofs.encoding.put_paths.Given as goal

abbrev pub invariant-loop-path : goal.invariant-loop-path
invariant-loop-path l =
    (l.out.items ≡ l.fn.out.items ++ (to_be_bytes w32 (length l.paths) ++ flat_map text_bytes (take l.path-index l.paths)))
    × KeepsFront l.fn.out.items l.out.items
