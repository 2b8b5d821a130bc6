use Rattle.std.proofs.Common.{◌≡◌, ◌+◌, ◌++◌, false, length}
use Rattle.eden_globs.specs.Filters.{admits, all_paths}
use Rattle.eden_treediff.specs.Merges.{merge_rows}
use Rattle.eden_treediff.specs.internal.Settled.{AreSettled, HoldSame, KeepsSettled}
use Rattle.eden_treediff.specs.internal.Walks.{side_depth, side_rows, wanted_behind}
use Rattle.eden_treediff.proofs.Turns.{Stands}
use Rattle.eden_treediff.proofs.difference.+walk.Given as goal

abbrev pub decreases-walk : goal.decreases-walk
decreases-walk g l = side_depth l.store.now l.first + side_depth l.store.now l.second

abbrev pub invariant-pairs : goal.invariant-pairs
invariant-pairs g l = record {
  stands :
      Stands l.store (side_depth l.store l.fn.first) (side_depth l.store l.fn.second) (admits l.filter) l.fn.found.front
      (l.fn.found.paths.items ++ wanted_behind (admits l.filter) l.fn.found.front (merge_rows (side_rows l.store l.fn.first) (side_rows l.store l.fn.second)))
      l.found.paths.items (merge_rows (side_rows l.store l.fn.first) (side_rows l.store l.fn.second)) l.same l.merge;
  other : l.same ≡ false → l.filter ≡ all_paths → HoldSame l.store l.fn.first l.fn.second → ⊥;
  front : l.found.front ≡ l.fn.found.front;
  settled : AreSettled l.store l.settled;
  kept : KeepsSettled l.fn.settled l.settled;
}

abbrev pub decreases-pairs : goal.decreases-pairs
decreases-pairs g l = length l.merge.0 + length l.merge.1
