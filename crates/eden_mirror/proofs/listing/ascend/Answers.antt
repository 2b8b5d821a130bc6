use Rattle.std.proofs.Common.{rules}
use Rattle.std.proofs.lemmas.List.Sorted.{answers_always}
use Rattle.eden_mirror.proofs.Unlisted.{before, looked_at}
use Rattle.eden_mirror.proofs.listing.ascend.Goals as goal

pub returns : goal.returns
returns c = looked_at c.args.paths.now c.is_sorted_by.result (c.is_sorted_by.ensures.cases before (answers_always _ _ _ (λ f a r next k. search rules)))
