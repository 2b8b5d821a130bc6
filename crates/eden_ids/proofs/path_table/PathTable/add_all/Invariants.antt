use Rattle.std.proofs.Common.{◌≡◌, take}
use Rattle.eden_ids.specs.FileMaps.{path_set, union}
use Rattle.eden_ids.proofs.path_table.PathTable.add_all.Given as goal

-- the paths so far were added
abbrev pub invariant-loop-path : goal.invariant-loop-path
invariant-loop-path l = l.self ≡ union (path_set (take l.path-index l.paths)) l.initial.self
