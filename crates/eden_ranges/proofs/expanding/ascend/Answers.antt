use Rattle.std.proofs.Common.{rules}
use Rattle.std.proofs.lemmas.List.Sorted.{answers_always}
use Rattle.eden_history.specs.Said.{by_touch}
use Rattle.eden_ranges.proofs.OneAPath.{before, looked_at}
use Rattle.eden_ranges.proofs.expanding.ascend.Goals as goal

pub returns : goal.returns
returns c = looked_at by_touch c.args.touches.now c.is_sorted_by.result (c.is_sorted_by.ensures.cases (before by_touch) (answers_always _ _ _ (λ f a r next k. search rules)))
