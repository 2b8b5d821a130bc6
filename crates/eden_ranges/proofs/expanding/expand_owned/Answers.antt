use Rattle.std.proofs.Common.{◌≡◌, [], map, sym, ap, subst, ◌∙◌, arith}
use Rattle.eden_history.specs.Marks.{admitted, mark_said}
use Rattle.eden_history.specs.Said.{by_touch}
use Rattle.eden_ranges.specs.internal.Mentions.{Ascend}
use Rattle.eden_ranges.proofs.Only.{changes_marked, none_there}
use Rattle.eden_ranges.proofs.expanding.expand_owned.Goals as goal

pub returns-then-ascend-clause-marked : goal.returns-then-ascend-clause-marked
returns-then-ascend-clause-marked g c =
    let none : c.args.range.unclean ≡ [] = none_there c.args.range.unclean (sym c.is_empty.ensures ∙ c.if-is_empty.true) in
    let n = c.len.ensures in
    c.in_ok-mark_each.ensures
    ∙ ap (λ touches. admitted c.args.wanted.now (map mark_said (map by_touch touches))) c.into_vec.ensures
    ∙ changes_marked c.args.wanted.now c.args.store.now c.args.range none (omega arith)
    (subst (λ touches. Ascend (map by_touch touches)) c.as_slice.ensures (c.ascend.ensures c.if-ascend.true))
