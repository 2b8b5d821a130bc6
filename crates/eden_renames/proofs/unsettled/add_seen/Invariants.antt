use Rattle.std.proofs.Common.{◌≡◌, ℕ, List, ◌||◌, drop}
use Rattle.eden_ids.specs.FileMaps.{has}
use Rattle.eden_renames.specs.Renames.{seen_through}
use Rattle.eden_renames.proofs.Unsettling.{places}
use Rattle.eden_renames.proofs.unsettled.add_seen.Given as goal

-- what is in the table and what is left are what was in it and all paths
abbrev pub invariant-loop-path : goal.invariant-loop-path
invariant-loop-path g l =
    (p : List ℕ) → (has l.table p || places (seen_through l.commit l.renames) l.source l.dir (drop l.path-index l.path-items) p)
    ≡ (has l.initial.table p || places (seen_through l.commit l.renames) l.source l.dir l.path-items p)
