use Rattle.std.proofs.Common.{◌≡◌, length, ap, arith}
use Rattle.eden_objects.specs.Commits.{tree_rows}
use Rattle.eden_objects.proofs.Fitting.{limits}
use Rattle.eden_objects.proofs.Legal.{paths_but, top_paths}
use Rattle.eden_objects.proofs.store.Store.gather_all.Goals as goal

pub gather-requires-clause-room : goal.gather-requires-clause-room
gather-requires-clause-room g c =
    let reach = (limits c.args.self.now c.closed_law.ensures.closed c.args.tree c.requires).1 in
    let none : length c.new.result ≡ 0 = ap length c.new.ensures in
    omega (arith, reach, none)

pub gather-requires-clause-paths : goal.gather-requires-clause-paths
gather-requires-clause-paths g c =
    paths_but (g.S.Passes.passes c.args.passed.now) c.new.result (tree_rows c.args.self.now c.args.tree)
    (top_paths c.args.self.now c.args.tree c.new.result c.closed_law.ensures.closed c.requires c.new.ensures)
