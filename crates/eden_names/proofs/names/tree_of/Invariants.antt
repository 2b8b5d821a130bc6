use Rattle.std.proofs.Common.{◌≡◌, ℕ, ◌||◌, List, drop}
use Rattle.eden_ids.specs.FileMaps.{has_file_above}
use Rattle.eden_history.specs.Changes.{below_any}
use Rattle.eden_names.proofs.names.tree_of.Given as goal

-- a path is below one in the tree, or below one that is left
abbrev pub invariant-loop-prefix : goal.invariant-loop-prefix
invariant-loop-prefix l = (path : List ℕ) → (has_file_above l.tree path || below_any (drop l.prefix-index l.prefixes) path) ≡ below_any l.prefixes path
