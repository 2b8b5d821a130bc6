use Rattle.std.proofs.Common.{◌≡◌, IfOk, subst}
use Rattle.eden_ids.specs.FileMaps.{FileMap}
use Rattle.eden_objects.specs.Files.{commit_files}
use Rattle.eden_renames.proofs.Listed.{all_at_paths}
use Rattle.eden_overlay.specs.Layers.{over}
use Rattle.eden_workcopy.specs.Meanings.{base_of}
use Rattle.eden_workcopy.specs.internal.Agreements.{flat_or}
use Rattle.eden_workcopy.proofs.work.WorkCopy.flat.Goals as goal

pub returns : goal.returns
returns g c =
    let work = c.args.self.now in
    subst (λ (m : FileMap). IfOk c.flat_over.result (λ flat. over (commit_files c.args.store.now work.root) (flat_or flat work.overlay) ≡ over m work.overlay))
    (all_at_paths (base_of c.args.store.now work) c.requires.below) c.flat_over.ensures
