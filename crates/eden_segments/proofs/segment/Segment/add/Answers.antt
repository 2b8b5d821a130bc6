use Rattle.std.proofs.Common.{◌++◌, ◌∷◌, [], ◌∙◌, ap}
use Rattle.std.specs.Map.{lookup}
use Rattle.indexmap.proofs.CallerLemmas.{insert_entry-new}
use Rattle.eden_ids.specs.Sameness.{same_id}
use Rattle.eden_segments.proofs.segment.Segment.add.Goals as goal

pub returns-in-Ok-clause-ok : goal.returns-in-Ok-clause-ok
returns-in-Ok-clause-ok g c =
    c.in-Ok.ensures.entries
    ∙ insert_entry-new same_id c.self.inside.rows c.args.id c.args.value (ap (lookup (same_id c.args.id)) c.self.view_is ∙ c.requires)
    ∙ ap (λ rows. rows ++ (c.args.id, c.args.value) ∷ []) c.self.view_is
