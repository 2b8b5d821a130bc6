use Rattle.std.proofs.Common.{◌≡◌, ◌≤◌, length, take}
use Rattle.std.specs.List.{flat_map}
use Rattle.eden_messages.specs.Spells.{text_bytes}
use Rattle.eden_messages.proofs.lengths.len_of_paths.Given as goal

abbrev pub invariant-loop-path : goal.invariant-loop-path
invariant-loop-path l = (l.len ≡ length (flat_map text_bytes (take l.path-index l.paths))) × (l.len ≤ 16777216)
