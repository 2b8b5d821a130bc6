use Rattle.std.proofs.Common.{◌≡◌, ℕ, List, ◌||◌, drop}
use Rattle.std.specs.FinMap as fin
use Rattle.eden_ids.specs.FileMaps.{has}
use Rattle.eden_renames.specs.Renames.{seen_through}
use Rattle.eden_renames.proofs.Unsettling.{any_entry}
use Rattle.eden_renames.proofs.renames.Renames.unsettled.Given as goal

-- what is in the table and what is left are all entries
abbrev pub invariant-loop-entry : goal.invariant-loop-entry
invariant-loop-entry g l =
    (p : List ℕ) → (has l.table p || any_entry l.commit (seen_through l.commit l.self) (drop l.entry-index l.entry-items) p)
    ≡ any_entry l.commit (seen_through l.commit l.self) (fin.entries l.self) p
