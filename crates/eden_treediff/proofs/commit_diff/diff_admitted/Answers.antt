use Rattle.eden_treediff.specs.internal.Walks.{side_rows}
use Rattle.eden_treediff.proofs.Sides.{both_sides}
use Rattle.eden_treediff.proofs.commit_diff.diff_admitted.Goals as goal

pub returns-clause-paths : goal.returns-clause-paths
returns-clause-paths g c =
    both_sides g.N.Naming.id c.args.store.now c.args.filter.now c.args.first c.args.second (side_rows c.args.store.now c.in_ok-tree.tree) (side_rows c.args.store.now c.in_ok-other.other)
    c.in_ok-paths_between.field-0.items c.closed_law.ensures.closed c.closed_law.ensures.named c.in_ok-tree.ensures.1 c.in_ok-other.ensures.1 c.in_ok-paths_between.ensures
