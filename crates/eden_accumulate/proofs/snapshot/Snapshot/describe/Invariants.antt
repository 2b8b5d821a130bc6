use Rattle.std.proofs.Common.{◌≡◌, ◌++◌}
use Rattle.std.specs.List.{flat_map}
use Rattle.std.specs.Vec.Iter.{into_iter_items}
use Rattle.eden_renames.specs.Renames.{at_paths}
use Rattle.eden_overlay.specs.Layers.{over}
use Rattle.eden_accumulate.specs.internal.Describing.{looked_up}
use Rattle.eden_accumulate.proofs.snapshot.Snapshot.describe.Given as goal

-- the files so far, and those at the paths that are left
abbrev pub invariant-loop-path : goal.invariant-loop-path
invariant-loop-path g l =
    let look = looked_up g.N.Naming.id (over (at_paths l.base) l.self.overlay) in
    l.files.items ++ flat_map look (into_iter_items l.path-iterator) ≡ flat_map look l.fn.paths.items
