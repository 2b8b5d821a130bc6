use Rattle.eden_ids.proofs.FileMapLemmas.{differ-tells, file_at-tabulate, same_file_map}
use Rattle.eden_ids.proofs.laws.file_map_law.Goals as goal

pub returns-clause-differ : goal.returns-clause-differ
returns-clause-differ c = differ-tells

pub returns-clause-tabulate : goal.returns-clause-tabulate
returns-clause-tabulate c = file_at-tabulate

pub returns-clause-whole : goal.returns-clause-whole
returns-clause-whole c = same_file_map
