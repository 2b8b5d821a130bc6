use Rattle.std.proofs.Common.{◌||◌, ◌+◌, ◌∷◌, drop, sym, ap, ◌∙◌, arith}
use Rattle.std.proofs.lemmas.List.{drop_all, drop_more}
use Rattle.eden_ids.specs.FileMaps.{has}
use Rattle.eden_renames.specs.internal.Listed.{is_listed}
use Rattle.eden_renames.proofs.Unsettling.{one_own, own_end}
use Rattle.eden_renames.proofs.unsettled.add_own.Goals as goal

pub loop-path-preserved : goal.loop-path-preserved
loop-path-preserved g c = λ p.
    let all = c.deref-path-items.result.now in
    let at = c.loop-path.path-index in
    one_own c.loop-path.table c.add.new.self tt c.path-item.result (drop (at + 1) all) p c.in_ok-add.ensures.ok
    ∙ ap (λ ps. has c.loop-path.table p || is_listed ps p)
    (sym (drop_more all at c.path-item.result (omega arith) ∙ (λ i. sym c.path-item.is i ∷ drop (at + 1) all)))
    ∙ c.loop-path.invariant p

pub returns : goal.returns
returns g c = λ p.
    own_end c.args.commit.now c.args.dir.now c.args.table.now c.loop-path.table c.deref-path-items.result.now p
    (c.deref-path-items.ensures.value ∙ c.in_ok-list.ensures)
    (ap (λ ps. has c.loop-path.table p || is_listed ps p) (sym (drop_all c.loop-path.path-index c.deref-path-items.result.now (omega arith)))
    ∙ c.loop-path.invariant p)
