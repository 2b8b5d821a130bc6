use Rattle.std.proofs.Common.{◌≡◌, map, take}
use Rattle.eden_ranges.proofs.sorting.in_order.Given as goal

abbrev pub invariant-loop-one : goal.invariant-loop-one
invariant-loop-one l = l.sorted.items ≡ map (λ h. h.mention) (take l.one-index l.one-items)
