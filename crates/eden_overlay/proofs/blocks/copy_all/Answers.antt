use Rattle.std.proofs.Common.{◌<◌, ◌++◌, length, sym, ap, subst, ◌∙◌, arith}
use Rattle.std.specs.List.{slice_index_or}
use Rattle.eden_overlay.specs.internal.Blocks.{flat, AllFilled}
use Rattle.eden_overlay.proofs.Flattened.{flat_pushed, filled_pushed, flat_taken, filled_at}
use Rattle.eden_overlay.proofs.blocks.copy_all.Goals as goal

pub loop-block-preserved : goal.loop-block-preserved
loop-block-preserved c =
    let blocks = c.args.blocks.now.items in
    let copies = c.loop-block.copies.items in
    let copy = c.in_ok-copy_of.field-0 in
    let is = c.block-item.is ∙ ap (λ bs. slice_index_or bs c.loop-block.block-index c.block-item.result) c.deref-block-items.ensures.value in
    let within : c.loop-block.block-index < length blocks = let same = ap length c.deref-block-items.ensures.value in omega (arith, same) in
    record {
      same = ap flat c.in_ok-push.ensures.items
          ∙ flat_pushed copies copy
          ∙ ap (λ es. flat copies ++ es) c.in_ok-copy_of.ensures
          ∙ ap (λ es. es ++ c.block-item.result.items) c.loop-block.invariant.same
          ∙ sym (flat_taken blocks c.loop-block.block-index c.block-item.result within is);
      filled = subst AllFilled (sym c.in_ok-push.ensures.items)
          (filled_pushed copies copy c.loop-block.invariant.filled
          (subst (λ es. 0 < length es) (sym (c.in_ok-copy_of.ensures ∙ ap (λ b. b.items) is)) (filled_at blocks c.loop-block.block-index c.block-item.result within c.requires)));
    }
