use Rattle.std.proofs.Common.{ap, sym, subst}
use Rattle.eden_globs.specs.Filters.{admits}
use Rattle.eden_ids.specs.Paths.{lies_below}
use Rattle.eden_objects.specs.Commits.{rows_where}
use Rattle.eden_objects.specs.Listings.{Lists}
use Rattle.eden_objects.proofs.store.Store.list_below.Goals as goal

pub returns-in-Ok-Some : goal.returns-in-Ok-Some
returns-in-Ok-Some g c =
    let rows = rw c.in-Ok-Some.field-0-is at c.in-Ok-Some.ensures.rows in
    subst (λ found. Lists c.list_directory.result (rows_where (admits c.args.filter.now) found)) (ap (rows_where (λ p. lies_below p c.args.top.now)) (sym rows)) c.list_directory.ensures
