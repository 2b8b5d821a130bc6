use Rattle.std.proofs.Common.{◌++◌, ap, sym, ◌∙◌}
use Rattle.std.proofs.lemmas.List.{append-nil}
use Rattle.eden_overlay.proofs.Touched.{kept, is_other, dirty_listed}
use Rattle.eden_workcopy.proofs.dirty.dirty_paths.Goals as goal

pub returns : goal.returns
returns g c =
    let base = g.T.FileTree.files c.args.root.now in
    sym (append-nil c.loop-entry.dirty.items)
    ∙ ap (λ es. c.loop-entry.dirty.items ++ kept (is_other base) es) (sym c.in-None.ensures.steps.0)
    ∙ c.loop-entry.invariant
    ∙ dirty_listed base c.args.overlay.now
