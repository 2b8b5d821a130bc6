use Rattle.std.proofs.Common.{◌≡◌}
use Rattle.std.specs.List.{list_any}
use Rattle.eden_ids.specs.FileMaps.{paths, same_path}
use Rattle.eden_ids.proofs.files.FilesFileTree.file.Given as goal

-- the path is among those that are left exactly if it is among all of them
abbrev pub invariant-loop-at : goal.invariant-loop-at
invariant-loop-at l = list_any (λ q. same_path l.path q) l.at-iterator ≡ list_any (λ q. same_path l.path q) (paths l.self)
