use Rattle.std.proofs.Common.{◌≡◌, ◌<◌, [], T, vec_len, sym, ap, subst, ◌∙◌, arith}
use Rattle.std.proofs.lemmas.Bool.Decides.{nat_tests}
use Rattle.std.specs.FinMap.{is_sorted, find}
use Rattle.eden_overlay.specs.Layers.{by_bytes}
use Rattle.eden_overlay.specs.internal.Blocks.{flat, block_for, AllFilled}
use Rattle.eden_overlay.proofs.Placing.{without}
use Rattle.eden_overlay.proofs.Flattened.{rising_block, find_flat, without_flat, flat_emptied, filled_set, filled_removed, nothing_flat, no_items}
use Rattle.eden_overlay.proofs.blocks.take_out_of.Goals as goal

pub returns-then-at-len-clause-left : goal.returns-then-at-len-clause-left
returns-then-at-len-clause-left c =
    let is : c.block_for-at.result ≡ block_for c.args.path.now c.deref.result.now = c.block_for-at.ensures.is in
    let nothing : flat c.args.blocks.now.items ≡ [] =
    ap flat (sym c.deref.ensures.value) ∙ nothing_flat c.args.path.now c.deref.result.now (omega (arith, is, c.deref.ensures.len, c.len.ensures)) in
    nothing ∙ sym (ap (without c.args.path.now) nothing)

pub returns-then-at-len-clause-there : goal.returns-then-at-len-clause-there
returns-then-at-len-clause-there c =
    let is : c.block_for-at.result ≡ block_for c.args.path.now c.deref.result.now = c.block_for-at.ensures.is in
    let nothing : flat c.args.blocks.now.items ≡ [] =
    ap flat (sym c.deref.ensures.value) ∙ nothing_flat c.args.path.now c.deref.result.now (omega (arith, is, c.deref.ensures.len, c.len.ensures)) in
    sym (ap (find by_bytes c.args.path.now) nothing)

pub take_out-said-requires : goal.take_out-said-requires
take_out-said-requires c =
    subst (λ es. T (is_sorted by_bytes es)) (sym (ap (λ b. b.items) c.index_mut-block.ensures.value))
    (rising_block c.args.blocks.now.items c.block_for-at.result c.index_mut-block.result.now (omega arith) c.requires.sorted)

pub returns-else-is_empty-clause-left : goal.returns-else-is_empty-clause-left
returns-else-is_empty-clause-left c =
    without_flat c.args.path.now c.args.blocks.now.items c.block_for-at.result c.index_mut-block.result.now c.take_out-said.new.entries c.requires.sorted c.requires.filled
    (c.block_for-at.ensures.is ∙ ap (block_for c.args.path.now) c.deref.ensures.value) (omega arith)
    (c.take_out-said.ensures.left ∙ ap (λ b. without c.args.path.now b.items) c.index_mut-block.ensures.value)

pub returns-else-is_empty-clause-filled : goal.returns-else-is_empty-clause-filled
returns-else-is_empty-clause-filled c =
    let some : 0 < vec_len c.take_out-said.new.entries = grind (arith, nat_tests) in
    filled_set c.args.blocks.now.items c.block_for-at.result c.take_out-said.new.entries c.requires.filled (omega (arith, some, c.take_out-said.new.entries.ok.0))

pub returns-then-is_empty-clause-left : goal.returns-then-is_empty-clause-left
returns-then-is_empty-clause-left c =
    let zero : vec_len c.take_out-said.new.entries ≡ 0 = grind (arith, nat_tests) in
    ap flat c.remove.ensures.items
    ∙ flat_emptied c.args.blocks.now.items c.block_for-at.result c.take_out-said.new.entries (omega arith) (no_items c.take_out-said.new.entries zero)
    ∙ without_flat c.args.path.now c.args.blocks.now.items c.block_for-at.result c.index_mut-block.result.now c.take_out-said.new.entries c.requires.sorted c.requires.filled
    (c.block_for-at.ensures.is ∙ ap (block_for c.args.path.now) c.deref.ensures.value) (omega arith)
    (c.take_out-said.ensures.left ∙ ap (λ b. without c.args.path.now b.items) c.index_mut-block.ensures.value)

pub returns-then-is_empty-clause-filled : goal.returns-then-is_empty-clause-filled
returns-then-is_empty-clause-filled c =
    subst AllFilled (sym c.remove.ensures.items) (filled_removed c.args.blocks.now.items c.block_for-at.result c.take_out-said.new.entries c.requires.filled)

pub returns-then-is_empty-clause-there : goal.returns-then-is_empty-clause-there
returns-then-is_empty-clause-there c =
    c.take_out-said.ensures.there
    ∙ ap (λ b. find by_bytes c.args.path.now b.items) c.index_mut-block.ensures.value
    ∙ sym (find_flat c.args.path.now c.args.blocks.now.items c.block_for-at.result c.index_mut-block.result.now c.requires.sorted c.requires.filled
    (c.block_for-at.ensures.is ∙ ap (block_for c.args.path.now) c.deref.ensures.value) (omega arith))

pub returns-else-is_empty-clause-there : goal.returns-else-is_empty-clause-there
returns-else-is_empty-clause-there c =
    c.take_out-said.ensures.there
    ∙ ap (λ b. find by_bytes c.args.path.now b.items) c.index_mut-block.ensures.value
    ∙ sym (find_flat c.args.path.now c.args.blocks.now.items c.block_for-at.result c.index_mut-block.result.now c.requires.sorted c.requires.filled
    (c.block_for-at.ensures.is ∙ ap (block_for c.args.path.now) c.deref.ensures.value) (omega arith))
