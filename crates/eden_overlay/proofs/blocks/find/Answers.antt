use Rattle.std.proofs.Common.{◌≡◌, T, sym, ap, subst, ◌∙◌, arith}
use Rattle.std.specs.FinMap.{is_sorted, find}
use Rattle.eden_overlay.specs.Layers.{by_bytes}
use Rattle.eden_overlay.specs.internal.Blocks.{block_for}
use Rattle.eden_overlay.proofs.Flattened.{rising_block, find_flat, nothing_flat}
use Rattle.eden_overlay.proofs.blocks.find.Goals as goal

pub value_at-requires : goal.value_at-requires
value_at-requires c =
    let block = c.index-blocks-at.result in
    subst (λ es. T (is_sorted by_bytes es)) (sym (c.deref.ensures.value ∙ ap (λ b. b.items) c.index-blocks-at.is))
    (rising_block c.args.blocks.now c.block_for-at.result block (omega arith) c.requires.sorted)

pub returns-then-at-blocks : goal.returns-then-at-blocks
returns-then-at-blocks c =
    let path = c.args.path.now in
    let block = c.index-blocks-at.result in
    c.value_at.ensures
    ∙ ap (find by_bytes path) (c.deref.ensures.value ∙ ap (λ b. b.items) c.index-blocks-at.is)
    ∙ sym (find_flat path c.args.blocks.now c.block_for-at.result block c.requires.sorted c.requires.filled c.block_for-at.ensures.is (omega arith))

pub returns-else-at-blocks : goal.returns-else-at-blocks
returns-else-at-blocks c =
    let is : c.block_for-at.result ≡ block_for c.args.path.now c.args.blocks.now = c.block_for-at.ensures.is in
    sym (ap (find by_bytes c.args.path.now) (nothing_flat c.args.path.now c.args.blocks.now (omega (arith, is))))
