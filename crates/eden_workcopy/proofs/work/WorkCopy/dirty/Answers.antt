use Rattle.std.proofs.Common.{◌≡◌, IfOk, ap, subst, ◌∙◌}
use Rattle.eden_ids.specs.FileMaps.{FileMap, differ, listing}
use Rattle.eden_objects.specs.Files.{commit_files}
use Rattle.eden_overlay.specs.Layers.{over}
use Rattle.eden_workcopy.proofs.work.WorkCopy.dirty.Goals as goal

pub returns : goal.returns
returns g c =
    let root = commit_files c.args.store.now c.args.self.now.root in
    let layer = c.flat_or.result.now in
    subst (λ (m : FileMap). IfOk c.dirty_paths.result (λ paths. paths.items ≡ listing (differ m root))) (ap (over root) c.flat_or.ensures ∙ c.in_ok-flat.ensures)
    (subst (λ (m : FileMap). IfOk c.dirty_paths.result (λ paths. paths.items ≡ listing (differ (over m layer) m))) c.commit_files.ensures c.dirty_paths.ensures)
