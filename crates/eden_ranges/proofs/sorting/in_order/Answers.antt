use Rattle.std.proofs.Common.{map, rules, ap, ◌∙◌, arith}
use Rattle.std.specs.Cmp.{IsStrictWeakOrder}
use Rattle.std.specs.Cmp.Lexicographic.{nat_list_cmp_total}
use Rattle.std.specs.List.Sorted.{IsSortedBy, IsStableBy}
use Rattle.std.proofs.lemmas.List.{take_all}
use Rattle.std.proofs.lemmas.List.Sorted.{answers_always, ranks_by}
use Rattle.eden_ranges.specs.internal.Heads.{key}
use Rattle.eden_ranges.specs.internal.Mentions.{one_a_path, told}
use Rattle.eden_ranges.specs.declared.sorting.Headed.{Headed}
use Rattle.eden_ranges.proofs.OneAPath.{below, sorted_told}
use Rattle.eden_ranges.proofs.sorting.in_order.Goals as goal

pub returns : goal.returns
returns c =
    let ranks : IsStrictWeakOrder below = ranks_by nat_list_cmp_total key in
    let sorted : IsSortedBy below c.sort_by.new.self.items = c.in_ok-sort_by.ensures.sorted below ranks (answers_always _ _ _ (λ f a r next k. search rules)) in
    let stable : IsStableBy below c.in_ok-headed.headed.items c.sort_by.new.self.items = c.in_ok-sort_by.ensures.stable below ranks (answers_always _ _ _ (λ f a r next k. search rules)) in
    let all = c.as_slice-one-items.ensures.value in
    ap (λ ms. one_a_path (map told ms))
    (c.loop-one.invariant ∙ ap (map (λ (h : Headed). h.mention)) (take_all c.loop-one.one-index c.as_slice-one-items.result.now (omega arith) ∙ all))
    ∙ sorted_told c.args.mentions.now c.in_ok-headed.headed.items c.sort_by.new.self.items c.in_ok-headed.ensures.mentions c.in_ok-headed.ensures.heads
    c.in_ok-sort_by.ensures.permutation sorted stable
