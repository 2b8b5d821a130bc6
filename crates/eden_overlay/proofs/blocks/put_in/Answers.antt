use Rattle.std.proofs.Common.{◌≡◌, ◌<◌, T, length, vec_len, sym, ap, subst, ◌∙◌, arith}
use Rattle.std.proofs.lemmas.Bool.Decides.{nat_tests}
use Rattle.std.specs.FinMap.{is_sorted, put, find}
use Rattle.std.specs.Option.{is_none}
use Rattle.eden_overlay.specs.Layers.{by_bytes}
use Rattle.eden_overlay.specs.internal.Blocks.{block_for}
use Rattle.eden_overlay.proofs.Placing.{on_err}
use Rattle.eden_overlay.proofs.Flattened.{rising_block, put_flat, find_flat, flat_kept, filled_set, filled_at, put_some}
use Rattle.eden_overlay.proofs.blocks.put_in.Goals as goal

pub put-requires : goal.put-requires
put-requires c =
    let some : 0 < vec_len c.args.blocks.now = grind (arith, nat_tests) in
    let there = c.block_for-at.ensures.there (omega (arith, some, c.deref.ensures.len)) in
    let within : c.block_for-at.result < length c.args.blocks.now.items = omega (arith, there, c.deref.ensures.len, c.args.blocks.now.ok.0) in
    subst (λ es. T (is_sorted by_bytes es)) (sym (ap (λ b. b.items) c.index_mut.ensures.value))
    (rising_block c.args.blocks.now.items c.block_for-at.result c.index_mut.result.now within c.requires.sorted)

pub returns-in_err-is_new-clause-err : goal.returns-in_err-is_new-clause-err
returns-in_err-is_new-clause-err c =
    let some : 0 < vec_len c.args.blocks.now = grind (arith, nat_tests) in
    let there = c.block_for-at.ensures.there (omega (arith, some, c.deref.ensures.len)) in
    let within : c.block_for-at.result < length c.args.blocks.now.items = omega (arith, there, c.deref.ensures.len, c.args.blocks.now.ok.0) in
    on_err c.from_residual-in_err-is_new.result
    (flat_kept c.args.blocks.now.items c.block_for-at.result c.index_mut.result.now c.put.new.entries within (c.in_err-is_new.ensures.err ∙ ap (λ b. b.items) c.index_mut.ensures.value))

pub returns-in_err-is_new-clause-filled : goal.returns-in_err-is_new-clause-filled
returns-in_err-is_new-clause-filled c =
    let some : 0 < vec_len c.args.blocks.now = grind (arith, nat_tests) in
    let there = c.block_for-at.ensures.there (omega (arith, some, c.deref.ensures.len)) in
    let within : c.block_for-at.result < length c.args.blocks.now.items = omega (arith, there, c.deref.ensures.len, c.args.blocks.now.ok.0) in
    filled_set c.args.blocks.now.items c.block_for-at.result c.put.new.entries c.requires.filled
    (subst (λ es. 0 < length es) (sym (c.in_err-is_new.ensures.err ∙ ap (λ b. b.items) c.index_mut.ensures.value))
    (filled_at c.args.blocks.now.items c.block_for-at.result c.index_mut.result.now within c.requires.filled))

pub returns-in_err-is_new-clause-absent : goal.returns-in_err-is_new-clause-absent
returns-in_err-is_new-clause-absent c =
    let some : 0 < vec_len c.args.blocks.now = grind (arith, nat_tests) in
    let there = c.block_for-at.ensures.there (omega (arith, some, c.deref.ensures.len)) in
    let within : c.block_for-at.result < length c.args.blocks.now.items = omega (arith, there, c.deref.ensures.len, c.args.blocks.now.ok.0) in
    let is : c.block_for-at.result ≡ block_for c.args.path c.args.blocks.now.items =
    c.block_for-at.ensures.is ∙ ap (λ p. block_for p c.deref.result.now) c.as_bytes.ensures.bytes ∙ ap (block_for c.args.path) c.deref.ensures.value in
    on_err c.from_residual-in_err-is_new.result
    (find_flat c.args.path c.args.blocks.now.items c.block_for-at.result c.index_mut.result.now c.requires.sorted c.requires.filled is within
    ∙ sym (ap (λ b. find by_bytes c.args.path b.items) c.index_mut.ensures.value)
    ∙ c.in_err-is_new.ensures.absent)

pub split-requires-clause-filled : goal.split-requires-clause-filled
split-requires-clause-filled c =
    filled_set c.args.blocks.now.items c.block_for-at.result c.put.new.entries c.requires.filled
    (put_some c.args.path c.args.file c.index_mut.result.now.items c.put.new.entries.items c.in_ok-is_new.ensures.ok)

pub returns-clause-ok : goal.returns-clause-ok
returns-clause-ok c =
    let some : 0 < vec_len c.args.blocks.now = grind (arith, nat_tests) in
    let there = c.block_for-at.ensures.there (omega (arith, some, c.deref.ensures.len)) in
    let within : c.block_for-at.result < length c.args.blocks.now.items = omega (arith, there, c.deref.ensures.len, c.args.blocks.now.ok.0) in
    let is : c.block_for-at.result ≡ block_for c.args.path c.args.blocks.now.items =
    c.block_for-at.ensures.is ∙ ap (λ p. block_for p c.deref.result.now) c.as_bytes.ensures.bytes ∙ ap (block_for c.args.path) c.deref.ensures.value in
    c.split.ensures.same
    ∙ put_flat c.args.path c.args.blocks.now.items c.block_for-at.result c.index_mut.result.now c.args.file c.put.new.entries c.requires.sorted c.requires.filled is within
    (c.in_ok-is_new.ensures.ok ∙ ap (λ b. put by_bytes c.args.path c.args.file b.items) c.index_mut.ensures.value)

pub returns-clause-added : goal.returns-clause-added
returns-clause-added c =
    let some : 0 < vec_len c.args.blocks.now = grind (arith, nat_tests) in
    let there = c.block_for-at.ensures.there (omega (arith, some, c.deref.ensures.len)) in
    let within : c.block_for-at.result < length c.args.blocks.now.items = omega (arith, there, c.deref.ensures.len, c.args.blocks.now.ok.0) in
    let is : c.block_for-at.result ≡ block_for c.args.path c.args.blocks.now.items =
    c.block_for-at.ensures.is ∙ ap (λ p. block_for p c.deref.result.now) c.as_bytes.ensures.bytes ∙ ap (block_for c.args.path) c.deref.ensures.value in
    c.in_ok-is_new.ensures.added
    ∙ ap (λ b. is_none (find by_bytes c.args.path b.items)) c.index_mut.ensures.value
    ∙ ap is_none (sym (find_flat c.args.path c.args.blocks.now.items c.block_for-at.result c.index_mut.result.now c.requires.sorted c.requires.filled is within))
