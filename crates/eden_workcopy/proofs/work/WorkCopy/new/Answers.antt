use Rattle.std.proofs.Common.{rules}
use Rattle.eden_workcopy.proofs.Works.{new_fits}
use Rattle.eden_workcopy.proofs.work.WorkCopy.new.Goals as goal

pub returns-then-has_commit-clause-fits : goal.returns-then-has_commit-clause-fits
returns-then-has_commit-clause-fits g c =
    new_fits c.args.store.now c.args.root c.new.result c.new-then-has_commit.result c.closed_law.ensures.closed c.closed_law.ensures.small (search rules) c.new.ensures c.new-then-has_commit.ensures
