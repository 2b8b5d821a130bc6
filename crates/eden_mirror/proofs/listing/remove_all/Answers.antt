use Rattle.std.proofs.Common.{[], ◌∷◌, ◌++◌, take, sym, ap, ◌∙◌, arith}
use Rattle.std.specs.FinMap as fin
use Rattle.std.proofs.lemmas.List.{take_more}
use Rattle.eden_mirror.proofs.Unlisted.{but, but_more, but_none}
use Rattle.eden_mirror.proofs.listing.remove_all.Goals as goal

pub loop-path-init : goal.loop-path-init
loop-path-init c = but_none c.args.files.now

pub loop-path-preserved : goal.loop-path-preserved
loop-path-preserved c =
    let came = take c.loop-path.path-index c.args.gone.now in
    c.remove.ensures
    ∙ ap (λ files. fin.remove files c.path-item.result) c.loop-path.invariant
    ∙ but_more c.args.files.now came c.path-item.result
    ∙ ap (but c.args.files.now) (sym (take_more c.args.gone.now c.loop-path.path-index c.path-item.result (omega arith)
    ∙ ap (λ p. came ++ p ∷ []) (sym c.path-item.is)))
