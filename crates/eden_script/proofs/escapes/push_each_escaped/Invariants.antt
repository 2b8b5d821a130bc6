use Rattle.std.proofs.Common.{◌≡◌, ◌++◌, ◌-◌, ◌≤◌, length, take}
use Rattle.std.specs.List.{flat_map}
use Rattle.eden_script.specs.Escapes.{escaped_byte}
use Rattle.eden_script.proofs.escapes.push_each_escaped.Given as goal

abbrev pub invariant-loop-size : goal.invariant-loop-size
invariant-loop-size l = (l.start ≤ length l.fn.bytes) × (l.text.items ≡ l.initial.text.items ++ flat_map escaped_byte (take l.start l.fn.bytes))

abbrev pub decreases-loop-size : goal.decreases-loop-size
decreases-loop-size l = length l.fn.bytes - l.start
