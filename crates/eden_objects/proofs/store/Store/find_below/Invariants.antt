use Rattle.std.proofs.Common.{◌≡◌, length}
use Rattle.eden_objects.specs.Commits.{find_row, tree_rows}
use Rattle.eden_objects.specs.Closed.{HasTree}
use Rattle.eden_objects.proofs.store.Store.find_below.Given as goal

abbrev pub invariant-walk : goal.invariant-walk
invariant-walk g l = record {
  is_tree : HasTree l.self l.tree;
  answer : find_row l.path (tree_rows l.self l.fn.tree) ≡ find_row l.rest (tree_rows l.self l.tree);
}

abbrev pub decreases-walk : goal.decreases-walk
decreases-walk g l = length l.rest
