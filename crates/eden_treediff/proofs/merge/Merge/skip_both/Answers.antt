use Rattle.std.proofs.Common.{◌≡◌, drop, Option, ap, subst, ◌∙◌}
use Rattle.eden_treediff.specs.declared.changed.Changed.{Changed}
use Rattle.eden_treediff.specs.internal.Columns.{AreTold, passed, rest_of}
use Rattle.eden_treediff.specs.internal.Merging.{Rests}
use Rattle.eden_treediff.proofs.Merging.{both_told, side_passed}
use Rattle.eden_treediff.proofs.merge.Merge.skip_both.Goals.{in-Some, in_default}
use Rattle.eden_treediff.proofs.merge.Merge.skip_both.Goals as goal

pub invariant_of-self : goal.invariant_of-self
invariant_of-self c =
    let left = c.self.inside.left in
    let right = c.self.inside.right in
    let one = side_passed left c.self.invariant.0 in
    let two = side_passed right c.self.invariant.1 in
    elim c.match-self.branch [
      | in-Some w ↦
          let told = subst (λ (changed : Option Changed). AreTold changed left right) w.in-Some.is c.self.invariant.2 in
          rw (w.self-inside-is, c.pass.ensures, c.pass-2.ensures) (
            one.1,
            two.1,
            both_told left right w.in-Some.changed w.pass-in-Some.new.self.ids w.pass-in-Some.new.self.kinds c.self.invariant.0 c.self.invariant.1 told
                w.pass-in-Some.ensures.ids w.pass-in-Some.ensures.kinds,
          )
      | in_default w ↦ rw (w.self-inside-is, w.in_default.is, c.pass.ensures, c.pass-2.ensures) (one.1, two.1, tt)
    ]

pub returns : goal.returns
returns c =
    let left : rest_of (passed c.self.inside.left) ≡ drop 1 c.args.self.now.0 =
    (side_passed c.self.inside.left c.self.invariant.0).0 ∙ ap (λ (rests : Rests). drop 1 rests.0) c.self.view_is in
    let right : rest_of (passed c.self.inside.right) ≡ drop 1 c.args.self.now.1 =
    (side_passed c.self.inside.right c.self.invariant.1).0 ∙ ap (λ (rests : Rests). drop 1 rests.1) c.self.view_is in
    elim c.match-self.branch [
      | in-Some w ↦ rw (w.self-inside-is, c.pass.ensures, c.pass-2.ensures) (λ i. (left i, right i))
      | in_default w ↦ rw (w.self-inside-is, c.pass.ensures, c.pass-2.ensures) (λ i. (left i, right i))
    ]
