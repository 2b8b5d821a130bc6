use Rattle.std.proofs.Common.{◌≡◌, ℕ, List, ◌++◌}
use Rattle.eden_ids.specs.FileMaps.{path_set, paths, union}
use Rattle.eden_ids.proofs.files.Files.add_paths.Given as goal

-- some first paths were added, and the others are left
abbrev pub invariant-loop-path : goal.invariant-loop-path
invariant-loop-path l =
    (added : List (List ℕ)) × (paths l.self ≡ added ++ l.path-iterator) × (l.table ≡ union (path_set added) l.initial.table)
