use Rattle.eden_history.proofs.CheckoutLaws.{checked_out_no_clash, conflicts_in_differ, file_at-checked_out, has-conflicts, has-unclean}
use Rattle.eden_history.proofs.checkout_laws.checkout_law.Goals as goal

pub returns-clause-files : goal.returns-clause-files
returns-clause-files c = file_at-checked_out

pub returns-clause-fits : goal.returns-clause-fits
returns-clause-fits c = checked_out_no_clash

pub returns-clause-conflicts : goal.returns-clause-conflicts
returns-clause-conflicts c = has-conflicts

pub returns-clause-conflicts_differ : goal.returns-clause-conflicts_differ
returns-clause-conflicts_differ c = conflicts_in_differ

pub returns-clause-unclean : goal.returns-clause-unclean
returns-clause-unclean c = has-unclean
