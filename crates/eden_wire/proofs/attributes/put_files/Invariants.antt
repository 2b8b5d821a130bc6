use Rattle.std.proofs.Common.{◌≡◌, ◌++◌, length, take}
use Rattle.std.specs.List.{flat_map}
use Rattle.std.specs.Int.{w32, to_be_bytes}
use Rattle.eden_ids.specs.Fronts.{KeepsFront}
use Rattle.eden_wire.specs.Attributes.{described_bytes}
use Rattle.eden_wire.proofs.attributes.put_files.Given as goal

abbrev pub invariant-loop-file : goal.invariant-loop-file
invariant-loop-file l =
    (l.out.items ≡ l.fn.out.items ++ (to_be_bytes w32 (length l.files) ++ flat_map described_bytes (take l.file-index l.files)))
    × KeepsFront l.fn.out.items l.out.items
