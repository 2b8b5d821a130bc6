use Rattle.std.proofs.Common.{◌≡◌, ◌≤◌, length, take}
use Rattle.std.specs.List.{flat_map}
use Rattle.eden_wire.specs.Attributes.{described_bytes}
use Rattle.eden_wire.proofs.attributes.len_of_files.Given as goal

abbrev pub invariant-loop-file : goal.invariant-loop-file
invariant-loop-file l = (l.len ≡ length (flat_map described_bytes (take l.file-index l.files))) × (l.len ≤ 16777216)
