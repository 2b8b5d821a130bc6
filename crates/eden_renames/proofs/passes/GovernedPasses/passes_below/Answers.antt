use Rattle.std.proofs.Common.{sym, ◌∙◌}
use Rattle.eden_renames.proofs.Regions.{governed_more}
use Rattle.eden_renames.proofs.passes.GovernedPasses.passes_below.Goals as goal

pub returns : goal.returns
returns c = λ governed rest within. governed_more c.args.self.now.renames.now c.args.front.now (sym c.is_governed.ensures ∙ governed) rest
