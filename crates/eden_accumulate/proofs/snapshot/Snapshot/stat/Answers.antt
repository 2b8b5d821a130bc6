use Rattle.std.proofs.Common.{ap, ◌∙◌}
use Rattle.std.specs.Option.{option_map}
use Rattle.eden_ids.specs.FileMaps.{FileMap, file_at}
use Rattle.eden_objects.specs.Stats.{stat_of}
use Rattle.eden_renames.specs.Renames.{at_paths}
use Rattle.eden_overlay.specs.Layers.{over}
use Rattle.eden_accumulate.proofs.snapshot.Snapshot.stat.Goals as goal

pub returns-clause-stat : goal.returns-clause-stat
returns-clause-stat g c =
    c.stat_over.ensures
    ∙ ap (λ (m : FileMap). option_map (stat_of g.N.Naming.id) (file_at (over (at_paths m) c.args.self.now.overlay) c.args.path.now)) c.in_ok-base.ensures.base
