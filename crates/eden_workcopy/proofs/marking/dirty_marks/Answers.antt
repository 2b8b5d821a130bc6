use Rattle.std.proofs.Common.{◌≡◌, IfOk, ap, subst, ◌∙◌}
use Rattle.eden_ids.specs.FileMaps.{FileMap}
use Rattle.eden_objects.specs.Files.{commit_files}
use Rattle.eden_overlay.specs.Layers.{over}
use Rattle.eden_history.specs.DirtyFiles.{dirty_marks}
use Rattle.eden_workcopy.proofs.marking.dirty_marks.Goals as goal

pub returns : goal.returns
returns g c =
    let root = commit_files c.args.store.now c.args.root in
    let layer = c.flat_or.result.now in
    let wanted = c.args.wanted.now in
    subst (λ (m : FileMap). IfOk c.marked_over.result (λ marked. marked.items ≡ dirty_marks m root wanted)) (ap (over root) c.flat_or.ensures ∙ c.in_ok-flat.ensures)
    (subst (λ (m : FileMap). IfOk c.marked_over.result (λ marked. marked.items ≡ dirty_marks (over m layer) m wanted)) c.commit_files-commit.ensures c.marked_over.ensures)
