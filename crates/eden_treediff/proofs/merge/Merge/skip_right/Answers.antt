use Rattle.std.proofs.Common.{◌≡◌, drop, ap, ◌∙◌}
use Rattle.eden_treediff.specs.internal.Columns.{rest_of}
use Rattle.eden_treediff.specs.internal.Merging.{Rests}
use Rattle.eden_treediff.proofs.Merging.{side_passed}
use Rattle.eden_treediff.proofs.merge.Merge.skip_right.Goals as goal

pub returns : goal.returns
returns c =
    let left : rest_of c.self.inside.left ≡ c.args.self.now.0 = ap (λ (rests : Rests). rests.0) c.self.view_is in
    let right : rest_of c.pass.new.self ≡ drop 1 c.args.self.now.1 =
    ap rest_of c.pass.ensures ∙ (side_passed c.self.inside.right c.self.invariant.1).0 ∙ ap (λ (rests : Rests). drop 1 rests.1) c.self.view_is in
    λ i. (left i, right i)
