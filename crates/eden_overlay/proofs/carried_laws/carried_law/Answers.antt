use Rattle.eden_overlay.proofs.CarriedLemmas.{carried-arrives, carried-elsewhere, carried_fits, file_at-carried}
use Rattle.eden_overlay.proofs.carried_laws.carried_law.Goals as goal

pub returns-clause-files : goal.returns-clause-files
returns-clause-files c = file_at-carried

pub returns-clause-arrives : goal.returns-clause-arrives
returns-clause-arrives c = carried-arrives

pub returns-clause-elsewhere : goal.returns-clause-elsewhere
returns-clause-elsewhere c = carried-elsewhere

pub returns-clause-fits : goal.returns-clause-fits
returns-clause-fits c = carried_fits
