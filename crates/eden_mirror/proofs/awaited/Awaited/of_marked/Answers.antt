use Rattle.std.proofs.Common.{[], ◌∷◌, ◌++◌, false, length, take, sym, ap, ◌∙◌, arith}
use Rattle.std.proofs.lemmas.List.{take_all, take_more}
use Rattle.indexmap.specs.IndexMap.{insert_entry}
use Rattle.eden_ids.specs.Sameness.{same_bytes}
use Rattle.eden_messages.specs.Mirrors.{distinct}
use Rattle.eden_messages.specs.Spells.{paths_of}
use Rattle.eden_mirror.specs.internal.Pending.{fresh, pending}
use Rattle.eden_mirror.proofs.Pending.{fresh-more, length-pending-fresh, pending-fresh, paths_of-more}
use Rattle.eden_mirror.proofs.awaited.Awaited.of_marked.Goals as goal

pub loop-marked-preserved : goal.loop-marked-preserved
loop-marked-preserved c =
    let came = take c.loop-marked.marked-index c.args.listed.now in
    c.in_ok-add.ensures.ok
    ∙ ap (λ es. insert_entry same_bytes es c.marked-item.result.path false) c.loop-marked.invariant
    ∙ fresh-more (paths_of came) c.marked-item.result.path
    ∙ ap (λ ps. fresh (distinct ps)) (sym (paths_of-more came c.marked-item.result))
    ∙ ap (λ ms. fresh (distinct (paths_of ms))) (sym (take_more c.args.listed.now c.loop-marked.marked-index c.marked-item.result (omega arith)
    ∙ ap (λ m. came ++ m ∷ []) (sym c.marked-item.is)))

pub invariant_of-result : goal.invariant_of-result
invariant_of-result c = record {
  distinct = c.len-left.ensures.unique;
  count =
      c.len-left.ensures.len ∙ ap length c.loop-marked.invariant
      ∙ length-pending-fresh (distinct (paths_of (take c.loop-marked.marked-index c.args.listed.now)))
      ∙ ap (λ es. length (pending es)) (sym c.loop-marked.invariant);
}

pub returns : goal.returns
returns c =
    ap pending c.loop-marked.invariant
    ∙ pending-fresh (distinct (paths_of (take c.loop-marked.marked-index c.args.listed.now)))
    ∙ ap (λ ms. distinct (paths_of ms)) (take_all c.loop-marked.marked-index c.args.listed.now (omega arith))
