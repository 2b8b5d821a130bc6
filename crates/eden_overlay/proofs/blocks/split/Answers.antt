use Rattle.std.proofs.Common.{◌≡◌, ◌<◌, ◌++◌, length, sym, ap, subst, ◌∙◌, arith, add-one}
use Rattle.std.proofs.lemmas.List.{length-drop, length-take-le, take-append-drop}
use Rattle.std.specs.List.{insert, slice_index_or, slice_set}
use Rattle.eden_overlay.specs.internal.Blocks.{flat, AllFilled}
use Rattle.eden_overlay.proofs.Flattened.{cut_filled, flat_cut, there_alike}
use Rattle.eden_overlay.proofs.blocks.split.Goals as goal

pub returns-clause-same : goal.returns-clause-same
returns-clause-same c =
    let at = c.args.at in
    let blocks = c.reserve.new.self.items in
    let block = c.index_mut.result.now in
    let lower = c.split_off.new.self in
    let upper = c.in-Ok.upper in
    let within : at < length blocks = let same = ap length c.reserve.ensures.items in omega (arith, same, c.requires.at) in
    ap flat (c.in-Ok-insert.ensures.items ∙ ap (λ n. insert (slice_set blocks at lower) n upper) (add-one at))
    ∙ flat_cut blocks at block lower upper within
    ((λ i. c.in-Ok.ensures.items i ++ c.in-Ok.ensures.tail i) ∙ take-append-drop c.lower_size-kept.result block.items ∙ ap (λ b. b.items) c.index_mut.ensures.value)
    ∙ ap flat c.reserve.ensures.items

pub returns-clause-filled : goal.returns-clause-filled
returns-clause-filled c =
    let at = c.args.at in
    let kept = c.lower_size-kept.result in
    let blocks = c.reserve.new.self.items in
    let block = c.index_mut.result.now in
    let before = c.index.result.now in
    let lower = c.split_off.new.self in
    let upper = c.in-Ok.upper in
    let within : at < length blocks = let same = ap length c.reserve.ensures.items in omega (arith, same, c.requires.at) in
    let size : length before.items ≡ length block.items =
    ap (λ b. length b.items) (c.index.ensures ∙ ap (λ bs. slice_index_or bs at before) (sym c.reserve.ensures.items) ∙ there_alike blocks at before block within ∙ sym c.index_mut.ensures.value) in
    let fewer : kept < length block.items = omega (arith, size, before.ok.0, c.len.ensures, c.if-len-lt-FULL.false, c.lower_size-kept.ensures.fewer) in
    let low = ap length c.in-Ok.ensures.items ∙ length-take-le kept block.items (omega (arith, fewer)) in
    let high = ap length c.in-Ok.ensures.tail ∙ length-drop kept block.items in
    subst AllFilled (sym (c.in-Ok-insert.ensures.items ∙ ap (λ n. insert (slice_set blocks at lower) n upper) (add-one at)))
    (cut_filled blocks at lower upper (subst AllFilled (sym c.reserve.ensures.items) c.requires.filled)
    (omega (arith, low, c.lower_size-kept.ensures.some)) (omega (arith, high, fewer)))
