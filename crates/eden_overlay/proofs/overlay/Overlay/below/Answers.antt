use Rattle.std.proofs.Common.{drop, ap, ◌∙◌}
use Rattle.std.specs.FinMap as fin
use Rattle.eden_ids.proofs.ByteOrder.{upto}
use Rattle.eden_overlay.specs.Layers.{marks}
use Rattle.eden_overlay.specs.Places.{place}
use Rattle.eden_overlay.specs.internal.Blocks.{before}
use Rattle.eden_overlay.proofs.Walked.{below_from}
use Rattle.eden_overlay.proofs.overlay.Overlay.below.Goals as goal

pub returns : goal.returns
returns c =
    let path = c.args.top.now in
    let all = fin.entries c.args.self.now in
    ap (λ k. marks (before k c.entries_from.result)) c.edge-2.ensures
    ∙ ap (λ es. marks (before (upto path) es)) (c.entries_from.ensures.from ∙ ap (λ k. drop (place k all) all) (c.as_slice.ensures.value ∙ c.edge.ensures))
    ∙ ap marks (below_from path all (fin.entries_sorted c.args.self.now))
