use Rattle.eden_ids.specs.FileMaps.{path_set}
use Rattle.eden_objects.specs.Commits.{commit_map}
use Rattle.eden_ranges.specs.internal.Pairs.{AreCovered}
use Rattle.eden_ranges.proofs.Columns.{Compared}
use Rattle.eden_ranges.proofs.expanding.differing_paths.Given as goal

abbrev pub invariant-loop-place : goal.invariant-loop-place
invariant-loop-place g l =
    Compared l.wanted (commit_map l.store) l.roots l.place (path_set l.paths.items)
    × AreCovered l.wanted (commit_map l.store) l.pairs.keys (path_set l.paths.items)

abbrev pub decreases-loop-place : goal.decreases-loop-place
decreases-loop-place g l = l.place
