use Rattle.std.proofs.Common.{drop, length, ap, sym, ◌∙◌, arith}
use Rattle.std.proofs.lemmas.List.{length-drop}
use Rattle.std.specs.FinMap as fin
use Rattle.eden_overlay.specs.Layers.{by_bytes}
use Rattle.eden_overlay.specs.Places.{place}
use Rattle.eden_overlay.specs.internal.Blocks.{flat}
use Rattle.eden_overlay.proofs.overlay.Overlay.entries_from.Goals as goal

pub returns-clause-from : goal.returns-clause-from
returns-clause-from c =
    c.walk_from.ensures
    ∙ ap (λ es. drop (place c.args.path.now es) es)
    (ap flat c.as_slice.ensures.value ∙ sym (fin.entries-from_sorted by_bytes (flat c.self.inside.blocks.items) c.self.invariant.0) ∙ ap fin.entries c.self.view_is)

pub returns-clause-countable : goal.returns-clause-countable
returns-clause-countable c =
    let all = flat c.self.inside.blocks.items in
    let left = ap length (c.walk_from.ensures ∙ ap (λ bs. drop (place c.args.path.now (flat bs)) (flat bs)) c.as_slice.ensures.value) ∙ length-drop (place c.args.path.now all) all in
    omega (arith, left, c.self.invariant.2, c.self.invariant.3)
