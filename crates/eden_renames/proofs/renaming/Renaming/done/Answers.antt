use Rattle.std.proofs.Common.{◌≡◌, true, false, not, T, None, sym, ap, subst, ◌∙◌}
use Rattle.std.specs.Prelude.{if◌then◌else◌}
use Rattle.std.specs.Global.{Vec}
use Rattle.std.specs.FinMap as fin
use Rattle.std.specs.FinMap.{is_sorted, put}
use Rattle.std.specs.FinMap.Entries.{is_sorted-where_key}
use Rattle.std.specs.List.{AllByRecursion}
use Rattle.eden_ids.specs.Paths.{lies_below}
use Rattle.eden_renames.specs.Renames.{Entry, by_bytes}
use Rattle.eden_renames.proofs.Shifting.{arriving_below, arriving_sorted, shifted_found, whole_rename}
use Rattle.eden_renames.proofs.renaming.Renaming.done.Goals as goal
use Rattle.eden_renames.proofs.renaming.Renaming.done.Goals.{then-not-is_below, else-not-is_below}

pub replace_below-requires-clause-sorted : goal.replace_below-requires-clause-sorted
replace_below-requires-clause-sorted c =
    subst (λ es. T (is_sorted by_bytes es)) (sym c.forget_below.ensures.left)
    (is_sorted-where_key by_bytes (λ q. not (lies_below q c.self.inside.old)) c.self.inside.entries.items c.self.invariant.0.sorted)

pub replace_below-requires-clause-more_sorted : goal.replace_below-requires-clause-more_sorted
replace_below-requires-clause-more_sorted c =
    subst (λ es. T (is_sorted by_bytes es)) (sym c.self.invariant.0.arriving_is)
    (arriving_sorted c.self.inside.old c.self.inside.new c.self.inside.entries.items c.self.invariant.0.sorted)

pub replace_below-requires-clause-below : goal.replace_below-requires-clause-below
replace_below-requires-clause-below c =
    subst (AllByRecursion (λ (e : Entry). lies_below e.0 c.self.inside.new ≡ true)) (sym c.self.invariant.0.arriving_is)
    (arriving_below c.self.inside.old c.self.inside.new c.self.inside.entries.items)

pub put_reserved-requires-2-clause-sorted : goal.put_reserved-requires-2-clause-sorted
put_reserved-requires-2-clause-sorted c =
    elim c.if-not-is_below.branch [
      | then-not-is_below w ↦ subst (λ (v : Vec Entry). T (is_sorted by_bytes v.items)) (sym w.entries-is) w.put_reserved.ensures.sorted
      | else-not-is_below w ↦ subst (λ (v : Vec Entry). T (is_sorted by_bytes v.items)) (sym w.entries-is) c.replace_below.ensures.sorted
    ]

pub returns : goal.returns
returns c =
    let es = c.self.inside.entries.items in
    let old = c.self.inside.old in
    let new = c.self.inside.new in
    let there = c.replace_below.new.entries.items in
    let emptied : c.if-not-is_below.entries.items ≡ (if lies_below old new then there else put by_bytes old None there) =
    elim c.if-not-is_below.branch [
      | then-not-is_below w ↦
          let outside : lies_below old new ≡ false = sym c.is_below.ensures ∙ w.if-not-is_below.true in
          ap (λ (v : Vec Entry). v.items) w.entries-is ∙ w.put_reserved.ensures.put ∙ sym (ap (λ b. if b then there else put by_bytes old None there) outside)
      | else-not-is_below w ↦
          let inside : lies_below old new ≡ true = sym c.is_below.ensures ∙ w.if-not-is_below.false in
          ap (λ (v : Vec Entry). v.items) w.entries-is ∙ sym (ap (λ b. if b then there else put by_bytes old None there) inside)
    ] in
    c.of.ensures
    ∙ whole_rename es there c.if-not-is_below.entries.items c.put_reserved-2.new.entries.items old new c.self.inside.source
    c.self.invariant.0.sorted c.replace_below.ensures.sorted
    (shifted_found es there old new
    (λ dir. c.replace_below.ensures.finds dir
    ∙ (λ i. if lies_below dir new then fin.find by_bytes dir (c.self.invariant.0.arriving_is i) else fin.find by_bytes dir (c.forget_below.ensures.left i))))
    c.self.invariant.0.source_is emptied c.put_reserved-2.ensures.put
    ∙ ap (λ p. p.1) c.self.view_is
