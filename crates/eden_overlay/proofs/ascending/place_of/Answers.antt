use Rattle.std.proofs.Common.{rules, of_calls}
use Rattle.std.proofs.lemmas.Fn.{always_returns_same}
use Rattle.std.specs.Ordering.{is_lt}
use Rattle.eden_overlay.specs.Layers.{by_bytes}
use Rattle.eden_overlay.proofs.Placing.{place_is, parted}
use Rattle.eden_overlay.proofs.ascending.place_of.Goals as goal

pub returns-clause-is : goal.returns-clause-is
returns-clause-is g c =
    let key = always_returns_same _ _ _ (λ a r f k. search (rules, of_calls)) in
    place_is c.args.path.now c.args.entries.now c.partition_point.result c.partition_point.ensures.bound
    (c.partition_point.ensures.partitioned (λ e. is_lt (by_bytes e.0 c.args.path.now)) key (parted c.args.path.now c.args.entries.now c.requires))
