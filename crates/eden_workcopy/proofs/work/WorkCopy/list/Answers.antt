use Rattle.std.proofs.Common.{filter, ap, ◌∙◌}
use Rattle.eden_globs.specs.Filters.{admits}
use Rattle.eden_ids.specs.FileMaps.{FileMap, paths}
use Rattle.eden_renames.specs.Renames.{at_paths}
use Rattle.eden_workcopy.specs.Meanings.{base_of}
use Rattle.eden_renames.proofs.Listed.{all_at_paths}
use Rattle.eden_workcopy.proofs.work.WorkCopy.list.Goals as goal

pub returns : goal.returns
returns g c =
    let base = base_of c.args.store.now c.args.self.now in
    c.list_over.ensures base
    (c.in_ok-listed.ensures
    ∙ ap (λ (m : FileMap). filter (admits c.args.wanted.now) (paths m)) (ap at_paths c.base.ensures ∙ all_at_paths base c.requires.below))
