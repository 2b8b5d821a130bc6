use Rattle.std.proofs.Common.{◌≡◌}
use Rattle.std.specs.List.{list_any}
use Rattle.eden_ids.specs.FileMaps.{paths}
use Rattle.eden_world.specs.internal.Carrying.{breaks}
use Rattle.eden_world.proofs.carrying.breaks_a_path.Given as goal

-- a path breaks among those that are left exactly if one does among all of them
abbrev pub invariant-loop-path : goal.invariant-loop-path
invariant-loop-path l = list_any (breaks l.old l.new) l.path-iterator ≡ list_any (breaks l.old l.new) (paths l.files)
