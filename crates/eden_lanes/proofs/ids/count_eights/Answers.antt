use Rattle.std.proofs.Common.{◌+◌, ◌*◌, arith}
use Rattle.eden_lanes.proofs.Growing.{count_eight_more, length-ids_among}
use Rattle.eden_lanes.proofs.ids.count_eights.Goals as goal

pub overflow_add-count : goal.overflow_add-count
overflow_add-count c =
    let a = c.args.a.now in
    let b = c.args.b.now in
    let row = 8 * c.loop-eight.eight in
    let more = count_eight_more row a b (omega arith) (omega arith) in
    let few = length-ids_among (row + 8) a b in
    omega (arith, more, few, c.loop-eight.invariant, c.count_eight-count.ensures)
