use Rattle.std.proofs.Common.{◌+◌, ap, ◌∙◌, arith}
use Rattle.eden_lanes.proofs.Growing.{count_one_more, length-ids_among}
use Rattle.eden_lanes.proofs.ids.count_between.Goals as goal

pub overflow_add-count : goal.overflow_add-count
overflow_add-count c =
    let a = c.args.a.now in
    let b = c.args.b.now in
    let row = c.loop-row.row in
    let more = count_one_more row c.one_unless-count.result a b c.same_row.result (omega arith) (omega arith) c.same_row.ensures c.one_unless-count.ensures in
    let few = length-ids_among (row + 1) a b in
    omega (arith, more, few, c.loop-row.invariant)

pub loop-row-preserved : goal.loop-row-preserved
loop-row-preserved c =
    let a = c.args.a.now in
    let b = c.args.b.now in
    let row = c.loop-row.row in
    ap (λ n. n + c.one_unless-count.result) c.loop-row.invariant
    ∙ count_one_more row c.one_unless-count.result a b c.same_row.result (omega arith) (omega arith) c.same_row.ensures c.one_unless-count.ensures
