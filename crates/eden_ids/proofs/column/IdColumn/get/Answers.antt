use Rattle.std.proofs.Common.{rules, ◌<◌, length, arith, ◌∙◌, ap, refl}
use Rattle.std.specs.Prelude.{Some, slice_get}
use Rattle.std.proofs.lemmas.Grind.{get_or_default_zero}
use Rattle.eden_ids.proofs.ColumnLemmas.{columns-long, slice_get-rows}
use Rattle.eden_ids.proofs.column.IdColumn.get.Goals as goal

pub returns-then-row-len : goal.returns-then-row-len
returns-then-row-len c =
    let inside = c.self.inside in
    let row = c.args.row in
    let long = columns-long inside.first.items inside.second.items inside.third.items inside.fourth.items inside.fifth.items c.self.invariant in
    let below : row < length inside.first.items = search rules in
    let first = c.index.ensures ∙ get_or_default_zero inside.first.items row _ (omega arith) in
    let second = c.index-then-row-len.ensures ∙ get_or_default_zero inside.second.items row _ (omega arith) in
    let third = c.index-then-row-len-2.ensures ∙ get_or_default_zero inside.third.items row _ (omega arith) in
    let fourth = c.index-then-row-len-3.ensures ∙ get_or_default_zero inside.fourth.items row _ (omega arith) in
    let fifth = c.index-then-row-len-4.ensures ∙ get_or_default_zero inside.fifth.items row _ (omega arith) in
    ap Some (c.id_from.ensures ∙ rw (← first, ← second, ← third, ← fourth, ← fifth) refl)
    ∙ slice_get-rows (length inside.first.items) row inside.first.items inside.second.items inside.third.items inside.fourth.items inside.fifth.items below
    ∙ ap (λ ids. slice_get ids row) c.self.view_is
