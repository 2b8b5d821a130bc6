use Rattle.eden_history.proofs.DirRenameLaws.{carried-fault, dir_renamed-elsewhere, rename_dir_fits}
use Rattle.eden_history.proofs.dir_rename_laws.dir_rename_law.Goals as goal

pub returns-clause-fits : goal.returns-clause-fits
returns-clause-fits c = rename_dir_fits

pub returns-clause-elsewhere : goal.returns-clause-elsewhere
returns-clause-elsewhere c = dir_renamed-elsewhere

pub returns-clause-broken : goal.returns-clause-broken
returns-clause-broken c = carried-fault
