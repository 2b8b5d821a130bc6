use Rattle.std.proofs.Common.{◌≡◌, ◌++◌, map}
use Rattle.eden_history.specs.Marks.{admitted, mark_said}
use Rattle.eden_history.specs.Said.{by_touch}
use Rattle.eden_ranges.proofs.expanding.mark_each.Given as goal

-- with the marks of the changes that are left, all are marked
abbrev pub invariant-loop-touch : goal.invariant-loop-touch
invariant-loop-touch l =
    l.marked.items ++ admitted l.wanted (map mark_said (map by_touch l.touch-iterator.rest.items))
    ≡ admitted l.wanted (map mark_said (map by_touch l.fn.touches.items))
