use Rattle.std.proofs.Common.{◌==◌, rules}
use Rattle.std.proofs.lemmas.Iterator.Splits.{YieldsList-from_slice_split}
use Rattle.std.proofs.lemmas.Iterator.Search.{all_from_yields_List}
use Rattle.eden_globs.specs.Filters.{is_part}
use Rattle.eden_globs.proofs.filter.has_parts_alone.Goals as goal

pub returns : goal.returns
returns c = all_from_yields_List is_part _ _ _ c.all.ensures.ran (YieldsList-from_slice_split _ (λ b. b == 47) c.args.pattern.now
    c.split.ensures.rest c.split.ensures.done c.split.ensures.closure (λ x b q k. search rules)) (λ x b q k. search rules)
