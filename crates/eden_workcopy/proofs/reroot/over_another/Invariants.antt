use Rattle.std.proofs.Common.{◌≡◌, Some}
use Rattle.std.specs.List.{AllByRecursion}
use Rattle.std.specs.FinMap as fin
use Rattle.eden_ids.specs.FileMaps.{FileMap}
use Rattle.eden_overlay.specs.Layers.{Entry, over}
use Rattle.eden_workcopy.proofs.Rerooted.{Left}
use Rattle.eden_workcopy.proofs.reroot.over_another.Given as goal

abbrev pub invariant-loop-entry : goal.invariant-loop-entry
invariant-loop-entry g l =
    AllByRecursion {X = Entry} (λ e. fin.get l.overlay e.0 ≡ Some e.1) l.entry-iterator
    × ((root : FileMap) → Left (over root l.overlay) (g.B.FileTree.files l.base) l.overlay l.next l.entry-iterator)
