use Rattle.std.proofs.Common.{rules}
use Rattle.std.proofs.lemmas.List.Sorted.{answers_always, ranks_by}
use Rattle.std.specs.Ordering.{is_lt}
use Rattle.eden_follow.specs.declared.rows.RequestRow.{RequestRow}
use Rattle.eden_follow.specs.internal.Orders.{question_cmp}
use Rattle.eden_follow.proofs.Grouped.{question_total}
use Rattle.eden_follow.proofs.ordering.sort_requests.Goals as goal

pub returns-clause-sorted : goal.returns-clause-sorted
returns-clause-sorted c =
    c.in_ok-sort_by.ensures.sorted (λ (a b : RequestRow). is_lt (question_cmp a.request.now b.request.now)) (ranks_by question_total (λ (row : RequestRow). row.request.now))
    (answers_always _ _ _ (λ f a r next k. search rules))
