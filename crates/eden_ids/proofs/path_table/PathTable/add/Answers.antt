use Rattle.std.proofs.Common.{ap, ◌∙◌}
use Rattle.std.specs.FinMap as fin
use Rattle.eden_ids.proofs.TreeMaps.{map_of-insert}
use Rattle.eden_ids.proofs.path_table.PathTable.add.Goals as goal

pub returns-clause-ok : goal.returns-clause-ok
returns-clause-ok c =
    map_of-insert c.self.inside.paths c.insert.new.self c.in_ok-path.path tt c.in_ok-insert.ensures.updates
    ∙ ap (λ table. fin.insert table c.in_ok-path.path tt) c.self.view_is
    ∙ ap (λ path. fin.insert c.args.self.now path tt) c.in_ok-path.ensures
