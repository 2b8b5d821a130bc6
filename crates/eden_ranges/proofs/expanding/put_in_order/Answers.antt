use Rattle.std.proofs.Common.{◌≡◌, map, rules, sym, subst}
use Rattle.std.specs.Cmp.Lexicographic.{nat_list_cmp_total}
use Rattle.std.proofs.lemmas.List.Filters.{dedup_is}
use Rattle.std.proofs.lemmas.List.Kept.{IsStrictlySortedBy-dedup}
use Rattle.std.proofs.lemmas.List.Sorted.{answers_always}
use Rattle.std.specs.List.{dedup}
use Rattle.eden_ids.specs.Sameness.{same_bytes}
use Rattle.eden_ids.proofs.FileMapLemmas.{same_path-bytes}
use Rattle.eden_history.specs.Said.{by_root}
use Rattle.eden_ranges.specs.internal.Mentions.{Ascend}
use Rattle.eden_ranges.proofs.Lists.{once_each}
use Rattle.eden_ranges.proofs.OneAPath.{before, looked_at, strictly_ascend}
use Rattle.eden_ranges.proofs.expanding.put_in_order.Goals as goal

pub returns-then-is_sorted_by-clause-ascend : goal.returns-then-is_sorted_by-clause-ascend
returns-then-is_sorted_by-clause-ascend c =
    subst (λ ps. Ascend (map by_root ps)) c.as_slice.ensures.value
    (looked_at by_root c.as_slice.result.now c.is_sorted_by.result (c.is_sorted_by.ensures.cases (before by_root) (answers_always _ _ _ (λ f a r next k. search rules))) c.if-is_sorted_by.true)

pub returns-clause-same : goal.returns-clause-same
returns-clause-same c =
    once_each c.args.paths.now.items c.sort.new.self.items c.dedup.new.self.items c.in_ok-sort.ensures.permutation
    (dedup_is same_bytes c.sort.new.self.items c.dedup.new.self.items c.dedup.ensures.filtered)

pub returns-clause-ascend : goal.returns-clause-ascend
returns-clause-ascend c =
    let kept : c.dedup.new.self.items ≡ dedup same_bytes c.sort.new.self.items = dedup_is same_bytes c.sort.new.self.items c.dedup.new.self.items c.dedup.ensures.filtered in
    subst (λ ps. Ascend (map by_root ps)) (sym kept)
    (strictly_ascend (dedup same_bytes c.sort.new.self.items) (IsStrictlySortedBy-dedup nat_list_cmp_total (λ p q. sym (same_path-bytes p q)) c.sort.new.self.items c.in_ok-sort.ensures.sorted))
