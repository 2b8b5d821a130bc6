use Rattle.eden_objects.proofs.Grown.{rows_stay, maps_stay}
use Rattle.eden_objects.proofs.Importing.{imports_keep, imports_small, puts_keep}
use Rattle.eden_objects.proofs.laws.grown_law.Goals as goal

pub returns-clause-rows : goal.returns-clause-rows
returns-clause-rows c = rows_stay

pub returns-clause-maps : goal.returns-clause-maps
returns-clause-maps c = maps_stay

pub returns-clause-puts : goal.returns-clause-puts
returns-clause-puts c = puts_keep

pub returns-clause-imports : goal.returns-clause-imports
returns-clause-imports c = imports_keep

pub returns-clause-small : goal.returns-clause-small
returns-clause-small c = imports_small
