use Rattle.std.proofs.Common.{sym, ap, ◌∙◌}
use Rattle.std.specs.Prelude.{filter}
use Rattle.eden_globs.specs.Filters.{admits}
use Rattle.eden_ids.specs.FileMaps.{paths}
use Rattle.eden_renames.proofs.Listed.{all_at_paths}
use Rattle.eden_renames.proofs.listing.list_unmoved.Goals as goal

pub returns : goal.returns
returns g c =
    c.in_ok-list.ensures
    ∙ ap (λ files. filter (admits c.args.wanted.now) (paths files)) (sym (all_at_paths c.args.commit.now c.texts_law.ensures))
