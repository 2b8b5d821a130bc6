use Rattle.eden_segments.proofs.Stored.{taken_distinct}
use Rattle.eden_segments.proofs.freezing.merged.Goals as goal

pub take_rows-requires : goal.take_rows-requires
take_rows-requires g c =
    taken_distinct c.loop-segment.merged c.deref.result.now c.args.frozen.now c.args.newest.now c.loop-segment.segment-index c.segment-item.result
    c.loop-segment-test.true c.segment-item.is c.deref.ensures c.loop-segment.invariant c.requires
