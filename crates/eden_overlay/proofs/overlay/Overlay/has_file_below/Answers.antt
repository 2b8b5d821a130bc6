use Rattle.std.proofs.Common.{◌≡◌, is_some, drop, ap, ◌∙◌}
use Rattle.std.specs.Prelude.{filter}
use Rattle.std.specs.List.{list_any}
use Rattle.std.specs.FinMap as fin
use Rattle.eden_ids.specs.Paths.{lies_below}
use Rattle.eden_ids.proofs.ByteOrder.{upto}
use Rattle.eden_overlay.specs.Layers.{Entry}
use Rattle.eden_overlay.specs.Places.{place}
use Rattle.eden_overlay.specs.internal.Blocks.{before}
use Rattle.eden_overlay.proofs.Walked.{below_from}
use Rattle.eden_overlay.proofs.Within.{any_below}
use Rattle.eden_overlay.proofs.overlay.Overlay.has_file_below.Goals as goal

pub returns : goal.returns
returns c =
    let path = c.args.top.now in
    let all = fin.entries c.args.self.now in
    let inside : before (upto path) c.entries_from-entries.result ≡ filter (λ e. lies_below e.0 path) all =
    ap (before (upto path)) (c.entries_from-entries.ensures.from ∙ ap (λ k. drop (place k all) all) (c.as_slice.ensures.value ∙ c.edge.ensures))
    ∙ below_from path all (fin.entries_sorted c.args.self.now) in
    c.has_present.ensures
    ∙ ap (λ k. list_any {X = Entry} (λ e. is_some e.1) (before k c.entries_from-entries.result)) (c.as_slice-2.ensures.value ∙ c.edge-end.ensures)
    ∙ ap (list_any {X = Entry} (λ e. is_some e.1)) inside
    ∙ any_below path all
