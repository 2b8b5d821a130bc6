use Rattle.std.proofs.Common.{rules, ◌≡◌, ◌∙◌, None}
use Rattle.std.specs.Map.{lookup}
use Rattle.indexmap.proofs.CallerLemmas.{insert_entry-new}
use Rattle.eden_ids.specs.Sameness.{same_id}
use Rattle.eden_edend.proofs.FirstLemmas.{noted_new}
use Rattle.eden_edend.proofs.labels.Firsts.note.Goals as goal

pub returns-in-Ok-clause-ok : goal.returns-in-Ok-clause-ok
returns-in-Ok-clause-ok c =
    let absent : lookup (same_id c.args.id) c.args.self.now.places.entries ≡ None = search rules in
    noted_new c.args.self.now.places.entries c.insert.new.self.entries c.args.id c.args.at
    (c.in-Ok.ensures.entries ∙ insert_entry-new same_id c.args.self.now.places c.args.id c.args.at absent)
