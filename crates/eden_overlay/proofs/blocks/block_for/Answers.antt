use Rattle.std.proofs.Common.{◌≡◌, ◌∷◌, T, rules, of_calls, sym, ap, subst, ◌∙◌, arith}
use Rattle.std.proofs.lemmas.Fn.{always_returns_same}
use Rattle.std.specs.FinMap.{is_sorted}
use Rattle.eden_overlay.specs.Layers.{by_bytes}
use Rattle.eden_overlay.specs.internal.Blocks.{flat, AllFilled, begins_at_or_before, block_for}
use Rattle.eden_overlay.proofs.Flattened.{begun_is, blocks_parted, rising_back, spot_within, spot_there}
use Rattle.eden_overlay.proofs.blocks.block_for.Goals as goal

pub returns-in-Some-clause-is : goal.returns-in-Some-clause-is
returns-in-Some-clause-is c =
    let path = c.args.path.now in
    let block = c.in-Some.field-0-0.now in
    let later = c.in-Some.later.now in
    let parts : c.args.blocks.now ≡ block ∷ later = c.in-Some.ensures.cases.0 in
    let sorted : T (is_sorted by_bytes (flat (block ∷ later))) = subst (λ bs. T (is_sorted by_bytes (flat bs))) parts c.requires.sorted in
    let filled : AllFilled (block ∷ later) = subst AllFilled parts c.requires.filled in
    let key = always_returns_same _ _ _ (λ a r f k. search (rules, of_calls)) in
    begun_is path later c.partition_point.result c.partition_point.ensures.bound
    (c.partition_point.ensures.partitioned (λ b. begins_at_or_before path b.items) key (blocks_parted path later (rising_back block.items (flat later) sorted) filled.1))
    ∙ sym (ap (block_for path) parts)

pub returns-in-Some-clause-within : goal.returns-in-Some-clause-within
returns-in-Some-clause-within c =
    let is : c.partition_point.result ≡ block_for c.args.path.now c.args.blocks.now = returns-in-Some-clause-is c in
    let within = spot_within c.args.path.now c.args.blocks.now in
    omega (arith, is, within)

pub returns-in-Some-clause-there : goal.returns-in-Some-clause-there
returns-in-Some-clause-there c =
    λ some.
    let is : c.partition_point.result ≡ block_for c.args.path.now c.args.blocks.now = returns-in-Some-clause-is c in
    let there = spot_there c.args.path.now c.args.blocks.now some in
    omega (arith, is, there)
