use Rattle.std.proofs.Common.{◌≡◌, T, length, ap, sym, subst, ◌∙◌}
use Rattle.std.specs.FinMap as fin
use Rattle.eden_overlay.specs.Layers.{by_bytes}
use Rattle.eden_overlay.proofs.overlay.Overlay.copy.Goals as goal

pub invariant_of-result : goal.invariant_of-result
invariant_of-result c = (
  subst (λ es. T (fin.is_sorted by_bytes es)) (sym c.in_ok-blocks.ensures.same) c.self.invariant.0,
  c.in_ok-blocks.ensures.filled,
  subst (λ es. length es ≡ c.self.inside.count) (sym c.in_ok-blocks.ensures.same) c.self.invariant.2,
  c.self.invariant.3,
)

pub returns : goal.returns
returns c = ap (λ es. fin.from_sorted {R = by_bytes} es) c.in_ok-blocks.ensures.same ∙ c.self.view_is
