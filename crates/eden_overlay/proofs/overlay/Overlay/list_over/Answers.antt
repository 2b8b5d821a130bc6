use Rattle.std.proofs.Common.{◌≡◌, ℕ, List, IfOk, filter, ap, subst, ◌∙◌}
use Rattle.std.specs.FinMap as fin
use Rattle.eden_globs.specs.Filters.{admits}
use Rattle.eden_overlay.specs.Layers.{Entry, marks}
use Rattle.eden_overlay.specs.internal.Woven.{woven}
use Rattle.eden_overlay.proofs.WovenRows.{layer_shown, listed, marks_up}
use Rattle.eden_overlay.proofs.overlay.Overlay.list_over.Goals as goal

pub returns : goal.returns
returns c =
    let wanted = c.args.wanted.now in
    let layer = c.args.self.now in
    λ base rows.
    subst (λ (ps : List (List ℕ)). IfOk c.weave.result (λ paths. paths.items ≡ ps))
    (ap (λ (es : List Entry). woven wanted c.args.listed.items (marks es)) c.entries.ensures
    ∙ listed wanted base (marks (fin.entries layer)) c.args.listed.items (marks_up layer) rows
    ∙ ap (filter (admits wanted)) (layer_shown base layer))
    c.weave.ensures
