use Rattle.std.proofs.Common.{◌∙◌, ◌+◌, ap, drop}
use Rattle.std.specs.Option.{option_or}
use Rattle.std.specs.Map.{lookup}
use Rattle.eden_ids.specs.Sameness.{same_id}
use Rattle.eden_segments.specs.internal.Segments.{frozen_rows}
use Rattle.eden_segments.proofs.Stored.{asked}
use Rattle.eden_segments.proofs.freezing.find_in.Goals as goal

pub returns-in-Some : goal.returns-in-Some
returns-in-Some g c =
    ap (λ found. option_or found (lookup (same_id c.args.id) (frozen_rows (drop (c.loop-segment.segment-index + 1) c.args.frozen.now))))
    (c.in-Some.ensures ∙ ap (lookup (same_id c.args.id)) c.deref.ensures)
    ∙ asked (same_id c.args.id) c.args.frozen.now c.loop-segment.segment-index c.segment-item.result c.loop-segment-test.true c.segment-item.is
    ∙ c.loop-segment.invariant

pub loop-segment-preserved : goal.loop-segment-preserved
loop-segment-preserved g c =
    ap (λ found. option_or found (lookup (same_id c.args.id) (frozen_rows (drop (c.loop-segment.segment-index + 1) c.args.frozen.now))))
    (c.in_default.ensures ∙ ap (lookup (same_id c.args.id)) c.deref.ensures)
    ∙ asked (same_id c.args.id) c.args.frozen.now c.loop-segment.segment-index c.segment-item.result c.loop-segment-test.true c.segment-item.is
    ∙ c.loop-segment.invariant
