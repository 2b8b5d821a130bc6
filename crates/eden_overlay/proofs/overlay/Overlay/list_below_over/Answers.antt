use Rattle.std.proofs.Common.{◌≡◌, ℕ, List, IfOk, filter, sym, ap, subst, ◌∙◌}
use Rattle.std.specs.FinMap as fin
use Rattle.eden_globs.specs.Filters.{admits}
use Rattle.eden_ids.specs.Paths.{lies_below}
use Rattle.eden_ids.proofs.Sifted.{keys-sifted}
use Rattle.eden_overlay.specs.Layers.{Mark, marks}
use Rattle.eden_overlay.specs.internal.Woven.{woven}
use Rattle.eden_overlay.proofs.WovenBelow.{files_below, marks_below, marks_beneath, shown_below, sorted_below}
use Rattle.eden_overlay.proofs.WovenRows.{layer_shown, listed, marks_up}
use Rattle.eden_overlay.proofs.overlay.Overlay.list_below_over.Goals as goal

pub returns : goal.returns
returns c =
    let top = c.args.top.now in
    let layer = c.args.self.now in
    let wanted = c.args.wanted.now in
    let all = marks (fin.entries layer) in
    λ base rows.
    subst (λ (ps : List (List ℕ)). IfOk c.weave.result (λ found. found.items ≡ ps))
    (ap (λ (ms : List Mark). woven wanted c.args.listed.items ms) (c.below.ensures ∙ marks_beneath top (fin.entries layer))
    ∙ listed wanted (files_below top base) (marks_below top all) c.args.listed.items (sorted_below top all (marks_up layer))
    (rows ∙ ap (filter (admits wanted)) (sym (keys-sifted base (λ p. lies_below p top))))
    ∙ ap (filter (admits wanted)) (shown_below base all top (marks_up layer) ∙ ap (filter (λ p. lies_below p top)) (layer_shown base layer)))
    c.weave.ensures
