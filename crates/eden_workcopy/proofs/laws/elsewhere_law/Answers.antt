use Rattle.eden_workcopy.proofs.Works.{fits_elsewhere}
use Rattle.eden_workcopy.proofs.laws.elsewhere_law.Goals as goal

pub returns-clause-fits : goal.returns-clause-fits
returns-clause-fits c = fits_elsewhere
