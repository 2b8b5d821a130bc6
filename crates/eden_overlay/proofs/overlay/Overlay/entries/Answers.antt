use Rattle.std.proofs.Common.{ap, sym, subst, ◌∙◌}
use Rattle.std.specs.FinMap as fin
use Rattle.eden_overlay.specs.Layers.{by_bytes}
use Rattle.eden_overlay.specs.internal.Blocks.{flat, AllFilled}
use Rattle.eden_overlay.proofs.overlay.Overlay.entries.Goals as goal

pub of-requires : goal.of-requires
of-requires c = subst AllFilled (sym c.as_slice.ensures.value) c.self.invariant.1

pub returns : goal.returns
returns c =
    c.of.ensures
    ∙ ap flat c.as_slice.ensures.value
    ∙ sym (fin.entries-from_sorted by_bytes (flat c.self.inside.blocks.items) c.self.invariant.0)
    ∙ ap fin.entries c.self.view_is
