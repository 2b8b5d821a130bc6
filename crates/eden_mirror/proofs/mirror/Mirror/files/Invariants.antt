use Rattle.std.proofs.Common.{◌≡◌, ◌++◌}
use Rattle.eden_ids.specs.FileMaps.{paths}
use Rattle.eden_mirror.proofs.mirror.Mirror.files.Given as goal

-- the paths so far and those that are left are all of them
abbrev pub invariant-loop-path : goal.invariant-loop-path
invariant-loop-path l = l.list.items ++ l.path-iterator ≡ paths l.self.files
