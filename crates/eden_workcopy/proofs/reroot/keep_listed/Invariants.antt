use Rattle.std.proofs.Common.{◌≡◌, drop}
use Rattle.std.specs.FinMap as fin
use Rattle.eden_ids.specs.FileMaps.{FileMap, differ, listing}
use Rattle.eden_workcopy.specs.internal.Agreements.{IsKept, kept_each}
use Rattle.eden_overlay.specs.Layers.{over}
use Rattle.eden_workcopy.proofs.Rerooted.{Leaves}
use Rattle.eden_workcopy.proofs.reroot.keep_listed.Given as goal

abbrev pub invariant-loop-path : goal.invariant-loop-path
invariant-loop-path g l =
    let root = g.R.FileTree.files l.root in
    record {
      each : kept_each root l.touched l.next (drop l.path-index l.paths) ≡ kept_each root l.touched l.initial.next l.paths;
      kept : (base : FileMap) → l.paths ≡ listing (differ root base) → IsKept (over root l.touched) base l.initial.next (fin.keys l.touched)
          → IsKept (over root l.touched) base l.next (fin.keys l.touched) × Leaves (over root l.touched) (over base l.next) (drop l.path-index l.paths) l.paths;
    }
