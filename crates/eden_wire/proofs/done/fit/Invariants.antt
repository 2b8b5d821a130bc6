use Rattle.std.proofs.Common.{◌≡◌, ◌+◌, ◌≤◌, length, take}
use Rattle.std.specs.List.{flat_map}
use Rattle.eden_messages.specs.Spells.{text_bytes}
use Rattle.eden_wire.proofs.done.fit.Given as goal

abbrev pub invariant-loop-path : goal.invariant-loop-path
invariant-loop-path l = (l.len ≡ 67 + length (flat_map text_bytes (take l.path-index l.conflicts))) × (l.len ≤ 16777216)
