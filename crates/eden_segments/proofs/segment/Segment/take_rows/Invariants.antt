use Rattle.std.proofs.Common.{◌≡◌, ◌++◌}
use Rattle.eden_segments.proofs.segment.Segment.take_rows.Given as goal

-- what is there, and after it what is left to take, is the whole
abbrev pub invariant-loop-id : goal.invariant-loop-id
invariant-loop-id g l = l.self ++ l.id-iterator ≡ l.fn.self ++ l.other
