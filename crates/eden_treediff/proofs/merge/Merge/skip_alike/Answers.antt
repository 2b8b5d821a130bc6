use Rattle.std.proofs.Common.{Option, refl, sym, ap, subst, ◌∙◌}
use Rattle.eden_treediff.specs.declared.changed.Changed.{Changed}
use Rattle.eden_treediff.specs.internal.Columns.{AreTold}
use Rattle.eden_treediff.specs.internal.Merging.{Rests}
use Rattle.eden_treediff.proofs.Merging.{all_skipped, moved}
use Rattle.eden_treediff.proofs.merge.Merge.skip_alike.Goals as goal

pub invariant_of-self : goal.invariant_of-self
invariant_of-self c =
    let left = c.self.inside.left in
    let right = c.self.inside.right in
    let row = c.first_or-row.result in
    let told = subst (λ (changed : Option Changed). AreTold changed left right) c.in-Some.is c.self.invariant.2 in
    let skipped = all_skipped left right c.in-Some.changed row c.self.invariant.0 c.self.invariant.1 told c.first_or-row.ensures in (
      (c.self.invariant.0.0, skipped.3),
      (c.self.invariant.1.0, skipped.4),
      subst (λ (changed : Option Changed). AreTold changed (moved left row) (moved right row)) (sym c.in-Some.is) (refl, skipped.5),
    )

pub returns-in-Some : goal.returns-in-Some
returns-in-Some c =
    let left = c.self.inside.left in
    let right = c.self.inside.right in
    let row = c.first_or-row.result in
    let told = subst (λ (changed : Option Changed). AreTold changed left right) c.in-Some.is c.self.invariant.2 in
    let skipped = all_skipped left right c.in-Some.changed row c.self.invariant.0 c.self.invariant.1 told c.first_or-row.ensures in
    (skipped.0, sym (ap (λ (rests : Rests). rests.0) c.self.view_is) ∙ skipped.1, sym (ap (λ (rests : Rests). rests.1) c.self.view_is) ∙ skipped.2)
