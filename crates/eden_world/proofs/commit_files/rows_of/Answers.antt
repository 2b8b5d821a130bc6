use Rattle.eden_world.proofs.Listed.{rows_paths}
use Rattle.eden_world.proofs.commit_files.rows_of.Goals as goal

pub returns-in-Ok : goal.returns-in-Ok
returns-in-Ok g c =
    rows_paths c.args.store.now c.args.commit c.all-filter.result c.in-Ok.rows.items c.closed_law.ensures.closed c.all-filter.ensures c.in-Ok.ensures
