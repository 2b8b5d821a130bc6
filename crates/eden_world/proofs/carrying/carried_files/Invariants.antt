use Rattle.std.proofs.Common.{◌≡◌, false}
use Rattle.std.specs.List.{list_any}
use Rattle.eden_overlay.specs.Carried.{carried_files}
use Rattle.eden_world.specs.internal.Carrying.{breaks}
use Rattle.eden_world.proofs.CarryingLaws.{carry_all}
use Rattle.eden_world.proofs.carrying.carried_files.Given as goal

-- with the files of the paths that are left, of which none breaks, these are all
abbrev pub invariant-loop-path : goal.invariant-loop-path
invariant-loop-path l =
    (carry_all l.files l.old l.new l.next l.path-iterator ≡ carried_files l.files l.old l.new)
    × (list_any (breaks l.old l.new) l.path-iterator ≡ false)
