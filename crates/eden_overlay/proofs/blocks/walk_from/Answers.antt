use Rattle.std.proofs.Common.{◌≡◌, ◌++◌, T, drop, length, suc, sym, ap, subst, ◌∙◌, arith}
use Rattle.std.proofs.lemmas.List.{take_rest}
use Rattle.std.specs.List.{slice_index_or}
use Rattle.std.specs.FinMap.{is_sorted}
use Rattle.eden_overlay.specs.Layers.{by_bytes}
use Rattle.eden_overlay.specs.Places.{place}
use Rattle.eden_overlay.specs.internal.Blocks.{flat, AllFilled, IsFilled, block_for}
use Rattle.eden_overlay.proofs.Flattened.{rising_block, from_flat, nothing_flat, first_left, none_left}
use Rattle.eden_overlay.proofs.Members.{all_left}
use Rattle.eden_overlay.proofs.blocks.walk_from.Goals as goal

pub place_of-requires : goal.place_of-requires
place_of-requires c =
    let block = c.in-Some.block.now in
    let left = first_left c.args.blocks.now c.block_for-at.result block c.in-Some.later.now (sym (take_rest c.args.blocks.now c.block_for-at.result) ∙ c.in-Some.ensures.cases.0) in
    subst (λ es. T (is_sorted by_bytes es)) (sym (c.deref-in-Some.ensures.value ∙ ap (λ b. b.items) (sym left.1)))
    (rising_block c.args.blocks.now c.block_for-at.result block left.0 c.requires.sorted)

pub of-requires : goal.of-requires
of-requires c =
    let left = first_left c.args.blocks.now c.block_for-at.result c.in-Some.block.now c.in-Some.later.now (sym (take_rest c.args.blocks.now c.block_for-at.result) ∙ c.in-Some.ensures.cases.0) in
    subst AllFilled left.2 (all_left IsFilled (suc c.block_for-at.result) c.args.blocks.now c.requires.filled)

pub returns-in-Some : goal.returns-in-Some
returns-in-Some c =
    let path = c.args.path.now in
    let blocks = c.args.blocks.now in
    let block = c.in-Some.block.now in
    let later = c.in-Some.later.now in
    let left = first_left blocks c.block_for-at.result block later (sym (take_rest blocks c.block_for-at.result) ∙ c.in-Some.ensures.cases.0) in
    c.of.ensures
    ∙ ap (λ es. es ++ flat later)
    (take_rest c.deref.result.now c.place_of.result
    ∙ ap (λ n. drop n c.deref.result.now) (c.place_of.ensures.is ∙ ap (place path) (c.deref-in-Some.ensures.value ∙ sym c.deref.ensures.value))
    ∙ ap (λ es. drop (place path es) es) (c.deref.ensures.value ∙ ap (λ b. b.items) (sym left.1)))
    ∙ ap (λ bs. drop (place path (slice_index_or blocks c.block_for-at.result block).items) (slice_index_or blocks c.block_for-at.result block).items ++ flat bs) (sym left.2)
    ∙ from_flat path blocks c.block_for-at.result block c.requires.sorted c.requires.filled c.block_for-at.ensures.is left.0

pub returns-in-None : goal.returns-in-None
returns-in-None c =
    let path = c.args.path.now in
    let blocks = c.args.blocks.now in
    let over = none_left blocks c.block_for-at.result (ap length (sym (take_rest blocks c.block_for-at.result)) ∙ c.in-None.ensures.cases) in
    let is : c.block_for-at.result ≡ block_for path blocks = c.block_for-at.ensures.is in
    c.of-in-None.ensures ∙ sym (ap (λ es. drop (place path es) es) (nothing_flat path blocks (omega (arith, over, is))))
