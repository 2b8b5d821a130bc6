use Rattle.std.proofs.Common.{ℕ, List, take, map, ◌++◌}
use Rattle.eden_shared.specs.internal.Marks.{Marks}
use Rattle.eden_shared.proofs.marking.mark_tickets.Given as goal

-- the tickets so far are marked
abbrev pub invariant-loop-noted : goal.invariant-loop-noted
invariant-loop-noted l = (earlier : List ℕ) → Marks l.initial.marks earlier
    → Marks l.marks (earlier ++ map (λ noted. noted.ticket) (take l.noted-index l.log.entries))
