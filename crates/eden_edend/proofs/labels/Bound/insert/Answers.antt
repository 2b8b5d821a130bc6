use Rattle.std.proofs.Common.{ap, ◌∙◌}
use Rattle.std.specs.FinMap as fin
use Rattle.eden_ids.proofs.TreeMaps.{map_of-insert}
use Rattle.eden_edend.proofs.labels.Bound.insert.Goals as goal

pub returns-clause-ok : goal.returns-clause-ok
returns-clause-ok c =
    map_of-insert c.self.inside.ids c.insert.new.self c.args.label c.args.id c.in-Ok.ensures.updates
    ∙ ap (λ ids. fin.insert ids c.args.label c.args.id) c.self.view_is
