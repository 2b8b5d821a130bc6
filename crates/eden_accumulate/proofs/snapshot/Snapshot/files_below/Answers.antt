use Rattle.std.proofs.Common.{ap, ◌∙◌}
use Rattle.std.specs.Prelude.{filter}
use Rattle.eden_globs.specs.Filters.{admits}
use Rattle.eden_ids.specs.FileMaps.{FileMap, paths}
use Rattle.eden_ids.specs.Paths.{lies_below}
use Rattle.eden_objects.specs.Files.{commit_files}
use Rattle.eden_renames.specs.Renames.{at_paths, seen_through}
use Rattle.eden_overlay.specs.Layers.{over}
use Rattle.eden_accumulate.proofs.Seen.{filters_turned}
use Rattle.eden_accumulate.proofs.snapshot.Snapshot.files_below.Goals as goal

pub returns-clause-files : goal.returns-clause-files
returns-clause-files g c =
    let wanted = c.args.filter.now in
    let top = c.args.prefix.now in
    let base = at_paths (seen_through (commit_files c.args.store.now c.args.self.now.position.root) c.args.self.now.renames) in
    c.in_ok-list_below_over.ensures base
    (c.in_ok-listed.ensures ∙ ap (λ (m : FileMap). filter (admits wanted) (filter (λ path. lies_below path top) (paths (at_paths m)))) c.in_ok-base.ensures.base)
    ∙ filters_turned (admits wanted) (λ path. lies_below path top) (paths (over base c.args.self.now.overlay))
