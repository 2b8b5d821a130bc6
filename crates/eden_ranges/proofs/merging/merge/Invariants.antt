use Rattle.std.proofs.Common.{◌+◌, length, map}
use Rattle.eden_history.specs.Marks.{mark_said}
use Rattle.eden_ranges.specs.internal.Mentions.{merged, told}
use Rattle.eden_ranges.proofs.Merged.{Merges}
use Rattle.eden_ranges.proofs.merging.merge.Given as goal

abbrev pub invariant-loop-order : goal.invariant-loop-order
invariant-loop-order l = Merges l.marked.items l.mentions.items l.named.items (map mark_said (merged (map told l.fn.mentions.items) l.fn.named.items))

abbrev pub decreases-loop-order : goal.decreases-loop-order
decreases-loop-order l = length l.named.items + length l.mentions.items
