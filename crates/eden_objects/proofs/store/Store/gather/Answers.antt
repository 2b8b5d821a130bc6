use Rattle.std.proofs.Common.{ap, ◌∙◌, ◌++◌}
use Rattle.std.specs.Prelude.{filter}
use Rattle.eden_globs.specs.Filters.{admits}
use Rattle.eden_objects.specs.Commits.{tree_rows}
use Rattle.eden_objects.specs.internal.Passed.{rows_but}
use Rattle.eden_objects.proofs.Gathering.{shown_but}
use Rattle.eden_objects.proofs.store.Store.gather.Goals as goal

pub returns : goal.returns
returns g c =
    let passes = g.S.Passes.passes c.args.passed.now in
    let rows = tree_rows c.args.self.now c.args.tree in
    c.in_ok-walk.ensures.visit.1
    ∙ ap (λ found. found ++ filter (λ row. admits c.args.filter.now row.0) (rows_but passes c.args.trail.now rows)) c.new.ensures.items
    ∙ shown_but passes c.args.filter.now c.args.trail.now rows
