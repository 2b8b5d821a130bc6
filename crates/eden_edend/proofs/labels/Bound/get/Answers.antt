use Rattle.std.proofs.Common.{sym, ap, ◌∙◌}
use Rattle.std.specs.FinMap as fin
use Rattle.eden_ids.proofs.TreeMaps.{get-map_of}
use Rattle.eden_edend.proofs.labels.Bound.get.Goals as goal

pub returns : goal.returns
returns c = c.get.ensures.value ∙ sym (get-map_of c.self.inside.ids c.args.label.now) ∙ ap (λ ids. fin.get ids c.args.label.now) c.self.view_is
