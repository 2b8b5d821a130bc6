use Rattle.std.proofs.Common.{ℕ, List, drop}
use Rattle.eden_shared.specs.internal.Marks.{Marks}
use Rattle.eden_shared.specs.internal.Walks.{Walks}
use Rattle.eden_shared.proofs.checking.check_log.Given as goal

-- what is found of the entries left settles the log
abbrev pub invariant-loop-noted : goal.invariant-loop-noted
invariant-loop-noted l = (earlier : List ℕ) → Marks l.marks earlier
    → Walks l.history l.answers earlier l.log.caller l.log.entries l.last (drop l.noted-index l.log.entries)
