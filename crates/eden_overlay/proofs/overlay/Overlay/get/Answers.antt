use Rattle.std.proofs.Common.{ap, sym, ◌∙◌}
use Rattle.std.specs.FinMap as fin
use Rattle.eden_overlay.specs.Layers.{by_bytes}
use Rattle.eden_overlay.specs.internal.Blocks.{flat}
use Rattle.eden_overlay.proofs.overlay.Overlay.get.Goals as goal

pub returns : goal.returns
returns c =
    c.find.ensures
    ∙ ap (λ bs. fin.find by_bytes c.args.path.now (flat bs)) c.as_slice.ensures.value
    ∙ sym (fin.get-from_sorted by_bytes (flat c.self.inside.blocks.items) c.args.path.now c.self.invariant.0)
    ∙ ap (λ m. fin.get m c.args.path.now) c.self.view_is
