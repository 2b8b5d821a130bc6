use Rattle.std.proofs.Common.{ℕ, List, rules}
use Rattle.std.proofs.lemmas.List.Sorted.{answers_always, ranks_by}
use Rattle.std.specs.Cmp.Lexicographic.{nat_list_cmp_total}
use Rattle.std.specs.Ordering.{is_lt}
use Rattle.eden_renames.specs.Renames.{by_bytes}
use Rattle.eden_renames.proofs.sorting.sort_paths.Goals as goal

pub returns-clause-sorted : goal.returns-clause-sorted
returns-clause-sorted c =
    c.in_ok-sort_by.ensures.sorted (λ one other. is_lt (by_bytes one other)) (ranks_by nat_list_cmp_total (λ (path : List ℕ). path))
    (answers_always _ _ _ (λ f a r next k. search rules))
