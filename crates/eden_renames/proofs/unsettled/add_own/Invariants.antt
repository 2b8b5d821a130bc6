use Rattle.std.proofs.Common.{◌≡◌, ℕ, List, ◌||◌, drop}
use Rattle.eden_ids.specs.FileMaps.{has}
use Rattle.eden_renames.specs.internal.Listed.{is_listed}
use Rattle.eden_renames.proofs.unsettled.add_own.Given as goal

-- what is in the table and what is left are what was in it and all paths
abbrev pub invariant-loop-path : goal.invariant-loop-path
invariant-loop-path g l =
    (p : List ℕ) → (has l.table p || is_listed (drop l.path-index l.path-items) p) ≡ (has l.initial.table p || is_listed l.path-items p)
