use Rattle.std.proofs.Common.{◌||◌, ◌+◌, ◌∷◌, drop, sym, ap, ◌∙◌, arith}
use Rattle.std.proofs.lemmas.List.{drop_all, drop_more}
use Rattle.eden_ids.specs.FileMaps.{has, paths}
use Rattle.eden_renames.specs.Renames.{seen_through}
use Rattle.eden_renames.proofs.Unsettling.{one_seen, places, path_below, seen_end}
use Rattle.eden_renames.proofs.unsettled.add_seen.Goals as goal

pub add_if_seen-requires : goal.add_if_seen-requires
add_if_seen-requires g c =
    path_below c.args.source.now (paths c.args.commit.now) c.deref-path-items.result.now c.loop-path.path-index c.path-item.result
    (c.deref-path-items.ensures.value ∙ c.in_ok-list.ensures) (omega arith) c.path-item.is

pub loop-path-preserved : goal.loop-path-preserved
loop-path-preserved g c = λ p.
    let all = c.deref-path-items.result.now in
    let at = c.loop-path.path-index in
    one_seen (seen_through c.args.commit.now c.args.renames.now) c.args.source.now c.args.dir.now c.loop-path.table c.add_if_seen.new.table c.path-item.result (drop (at + 1) all) p
    c.in_ok-add_if_seen.ensures
    ∙ ap (λ ps. has c.loop-path.table p || places (seen_through c.args.commit.now c.args.renames.now) c.args.source.now c.args.dir.now ps p)
    (sym (drop_more all at c.path-item.result (omega arith) ∙ (λ i. sym c.path-item.is i ∷ drop (at + 1) all)))
    ∙ c.loop-path.invariant p

pub returns : goal.returns
returns g c = λ p.
    seen_end c.args.commit.now (seen_through c.args.commit.now c.args.renames.now) c.args.source.now c.args.dir.now c.args.table.now c.loop-path.table c.deref-path-items.result.now p
    (c.deref-path-items.ensures.value ∙ c.in_ok-list.ensures)
    (ap (λ ps. has c.loop-path.table p || places (seen_through c.args.commit.now c.args.renames.now) c.args.source.now c.args.dir.now ps p)
    (sym (drop_all c.loop-path.path-index c.deref-path-items.result.now (omega arith)))
    ∙ c.loop-path.invariant p)
