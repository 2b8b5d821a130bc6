use Rattle.std.proofs.Common.{sym, ◌∙◌}
use Rattle.std.proofs.lemmas.Bool.{or_right}
use Rattle.eden_renames.proofs.Regions.{past_more}
use Rattle.eden_renames.proofs.passes.RegionPasses.passes_below.Goals as goal

pub returns-else-passes_below : goal.returns-else-passes_below
returns-else-passes_below g c = λ past rest within.
    or_right _ _ (past_more c.args.self.now.renames.now c.args.front.now c.args.self.now.long (sym c.is_past.ensures ∙ past) rest)
