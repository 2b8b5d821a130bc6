use Rattle.std.proofs.Common.{◌∙◌}
use Rattle.std.specs.List.{flat_map}
use Rattle.eden_objects.specs.Files.{commit_files}
use Rattle.eden_renames.specs.Renames.{at_paths, seen_through}
use Rattle.eden_overlay.specs.Layers.{over}
use Rattle.eden_accumulate.specs.Snapshots.{shown}
use Rattle.eden_accumulate.specs.internal.Describing.{looked_up}
use Rattle.eden_accumulate.proofs.Describing.{all_described_below}
use Rattle.eden_accumulate.proofs.snapshot.Snapshot.stats_below.Goals as goal

pub returns-clause-stats : goal.returns-clause-stats
returns-clause-stats g c =
    let name = g.N.Naming.id in
    c.in_ok-describe.ensures
    ∙ (λ i. flat_map (looked_up name (over (at_paths (c.in_ok-base.ensures.base i)) c.args.self.now.overlay)) (c.in_ok-paths.ensures.files i))
    ∙ all_described_below name (shown c.args.store.now c.args.self.now) c.args.filter.now c.args.prefix.now
