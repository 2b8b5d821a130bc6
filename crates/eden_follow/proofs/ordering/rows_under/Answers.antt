use Rattle.std.proofs.Common.{rules, of_calls, nat_le, nat_lt}
use Rattle.std.proofs.lemmas.Fn.{always_returns_same}
use Rattle.std.proofs.lemmas.List.Sorted.{IsPartitionedBy-leb, IsPartitionedBy-ltb}
use Rattle.eden_follow.specs.declared.rows.ReplyRow.{ReplyRow}
use Rattle.eden_follow.proofs.Grouped.{under}
use Rattle.eden_follow.proofs.ordering.rows_under.Goals as goal

pub returns : goal.returns
returns c =
    let starts = always_returns_same _ _ _ (λ a r f k. search (rules, of_calls)) in
    let ends = always_returns_same _ _ _ (λ a r f k. search (rules, of_calls)) in
    under c.args.rows.now c.args.ticket c.partition_point-start.result c.partition_point-end.result
    (c.partition_point-start.ensures.partitioned (λ (row : ReplyRow). nat_lt row.ticket c.args.ticket) starts (IsPartitionedBy-ltb (λ (row : ReplyRow). row.ticket) c.args.rows.now c.args.ticket c.requires))
    (c.partition_point-end.ensures.partitioned (λ (row : ReplyRow). nat_le row.ticket c.args.ticket) ends (IsPartitionedBy-leb (λ (row : ReplyRow). row.ticket) c.args.rows.now c.args.ticket c.requires))
    c.partition_point-start.ensures.bound c.partition_point-end.ensures.bound
