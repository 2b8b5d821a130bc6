use Rattle.std.proofs.Common.{rules, of_calls}
use Rattle.std.proofs.lemmas.Fn.{always_returns_same}
use Rattle.std.specs.Ordering.{is_lt}
use Rattle.eden_ids.proofs.ByteOrder.{from, upto, order, parted, in_order, part_below}
use Rattle.eden_ids.proofs.below.paths_below.Goals as goal

pub slice_bounds-result-count : goal.slice_bounds-result-count
slice_bounds-result-count g c =
    let top = c.args.top.now in
    let keyed = always_returns_same _ _ _ (λ a r f k. search (rules, of_calls)) in
    let keyed_end = always_returns_same _ _ _ (λ a r f k. search (rules, of_calls)) in
    let starts = c.partition_point-start.ensures.partitioned (λ x. is_lt (order (g.X.AtPath.path x) (from top))) keyed (parted g.X.AtPath.path (from top) c.args.items.now c.requires) in
    let ends = c.partition_point-end.ensures.partitioned (λ x. is_lt (order (g.X.AtPath.path x) (upto top))) keyed_end (parted g.X.AtPath.path (upto top) c.args.items.now c.requires) in
    in_order g.X.AtPath.path top c.args.items.now c.partition_point-start.result c.partition_point-end.result starts ends c.partition_point-start.ensures.bound

pub slice_bounds-result-start : goal.slice_bounds-result-start
slice_bounds-result-start g c =
    let top = c.args.top.now in
    let keyed = always_returns_same _ _ _ (λ a r f k. search (rules, of_calls)) in
    let keyed_end = always_returns_same _ _ _ (λ a r f k. search (rules, of_calls)) in
    let starts = c.partition_point-start.ensures.partitioned (λ x. is_lt (order (g.X.AtPath.path x) (from top))) keyed (parted g.X.AtPath.path (from top) c.args.items.now c.requires) in
    let ends = c.partition_point-end.ensures.partitioned (λ x. is_lt (order (g.X.AtPath.path x) (upto top))) keyed_end (parted g.X.AtPath.path (upto top) c.args.items.now c.requires) in
    in_order g.X.AtPath.path top c.args.items.now c.partition_point-start.result c.partition_point-end.result starts ends c.partition_point-start.ensures.bound

pub returns : goal.returns
returns g c =
    let top = c.args.top.now in
    let keyed = always_returns_same _ _ _ (λ a r f k. search (rules, of_calls)) in
    let keyed_end = always_returns_same _ _ _ (λ a r f k. search (rules, of_calls)) in
    let starts = c.partition_point-start.ensures.partitioned (λ x. is_lt (order (g.X.AtPath.path x) (from top))) keyed (parted g.X.AtPath.path (from top) c.args.items.now c.requires) in
    let ends = c.partition_point-end.ensures.partitioned (λ x. is_lt (order (g.X.AtPath.path x) (upto top))) keyed_end (parted g.X.AtPath.path (upto top) c.args.items.now c.requires) in
    part_below g.X.AtPath.path top c.args.items.now c.partition_point-start.result c.partition_point-end.result c.partition_point-start.ensures.bound c.partition_point-end.ensures.bound starts ends
