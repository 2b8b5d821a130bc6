use Rattle.std.proofs.Common.{◌≡◌, drop, ap, ◌∙◌}
use Rattle.std.specs.Prelude.{filter}
use Rattle.std.specs.FinMap as fin
use Rattle.eden_ids.specs.Paths.{lies_below}
use Rattle.eden_ids.proofs.ByteOrder.{upto}
use Rattle.eden_overlay.specs.Places.{place}
use Rattle.eden_overlay.specs.internal.Blocks.{before}
use Rattle.eden_overlay.proofs.Walked.{below_from}
use Rattle.eden_overlay.proofs.Within.{first_below}
use Rattle.eden_overlay.proofs.overlay.Overlay.has_entry_below.Goals as goal

pub returns : goal.returns
returns c =
    let path = c.args.top.now in
    let all = fin.entries c.args.self.now in
    let inside : before c.as_slice-2.result.now c.entries_from-entries.result ≡ filter (λ e. lies_below e.0 path) all =
    ap (λ k. before k c.entries_from-entries.result) (c.as_slice-2.ensures.value ∙ c.edge-2.ensures)
    ∙ ap (before (upto path)) (c.entries_from-entries.ensures.from ∙ ap (λ k. drop (place k all) all) (c.as_slice.ensures.value ∙ c.edge.ensures))
    ∙ below_from path all (fin.entries_sorted c.args.self.now) in
    c.is_some.ensures
    ∙ first_below c.first_before.result _ all path c.first_before.ensures.none c.first_before.ensures.some inside
