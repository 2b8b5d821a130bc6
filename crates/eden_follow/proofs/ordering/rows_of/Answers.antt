use Rattle.std.proofs.Common.{rules, of_calls}
use Rattle.std.proofs.lemmas.Fn.{always_returns_same}
use Rattle.std.specs.Ordering.{is_le, is_lt}
use Rattle.eden_follow.specs.declared.rows.RequestRow.{RequestRow}
use Rattle.eden_follow.specs.internal.Orders.{question_cmp}
use Rattle.eden_follow.proofs.Grouped.{before_parted, questioned, upto_parted}
use Rattle.eden_follow.proofs.ordering.rows_of.Goals as goal

pub returns : goal.returns
returns c =
    let starts = always_returns_same _ _ _ (λ a r f k. search (rules, of_calls)) in
    let ends = always_returns_same _ _ _ (λ a r f k. search (rules, of_calls)) in
    questioned c.args.rows.now c.args.request.now c.partition_point-start.result c.partition_point-end.result
    (c.partition_point-start.ensures.partitioned (λ (row : RequestRow). is_lt (question_cmp row.request.now c.args.request.now)) starts (before_parted c.args.rows.now c.args.request.now c.requires))
    (c.partition_point-end.ensures.partitioned (λ (row : RequestRow). is_le (question_cmp row.request.now c.args.request.now)) ends (upto_parted c.args.rows.now c.args.request.now c.requires))
    c.partition_point-start.ensures.bound c.partition_point-end.ensures.bound
