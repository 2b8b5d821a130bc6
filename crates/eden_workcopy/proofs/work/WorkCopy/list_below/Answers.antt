use Rattle.std.proofs.Common.{filter, ap, subst, ◌≡◌, IfOk, ◌∙◌}
use Rattle.eden_globs.specs.Filters.{admits}
use Rattle.eden_ids.specs.FileMaps.{FileMap, paths}
use Rattle.eden_ids.specs.Paths.{lies_below}
use Rattle.eden_overlay.specs.Layers.{over}
use Rattle.eden_overlay.proofs.WovenBelow.{all_wanted}
use Rattle.eden_renames.specs.Renames.{at_paths}
use Rattle.eden_workcopy.specs.Meanings.{base_of}
use Rattle.eden_renames.proofs.Listed.{all_at_paths}
use Rattle.eden_workcopy.proofs.work.WorkCopy.list_below.Goals as goal

pub returns : goal.returns
returns g c =
    let top = c.args.top.now in
    let base = base_of c.args.store.now c.args.self.now in
    let wanted = c.all-wanted.result in
    let below = filter (λ p. lies_below p top) (paths (over base c.args.self.now.overlay)) in
    subst (λ ps. IfOk c.list_below_over.result (λ listed. listed.items ≡ ps)) (all_wanted wanted below c.all-wanted.ensures)
    (c.list_below_over.ensures base
    (c.in_ok-listed.ensures
    ∙ ap (λ (m : FileMap). filter (admits wanted) (filter (λ p. lies_below p top) (paths m))) (ap at_paths c.base.ensures ∙ all_at_paths base c.requires.below)))
