use Rattle.std.proofs.Common.{◌≡◌, ◌≤◌, length, take}
use Rattle.std.specs.List.{flat_map}
use Rattle.eden_messages.specs.Spells.{marked_bytes}
use Rattle.eden_messages.proofs.lengths.len_of_marked.Given as goal

abbrev pub invariant-loop-marked : goal.invariant-loop-marked
invariant-loop-marked l = (l.len ≡ length (flat_map marked_bytes (take l.marked-index l.list))) × (l.len ≤ 16777216)
