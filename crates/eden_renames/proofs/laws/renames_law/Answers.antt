use Rattle.eden_renames.proofs.Seen.{file_at-seen, seen-unmoved}
use Rattle.eden_renames.proofs.DirRenamed.{get-dir_moved, seen-dir_moved}
use Rattle.eden_renames.proofs.Settled.{carried_texts, own_file, settled}
use Rattle.eden_renames.proofs.laws.renames_law.Goals as goal

pub returns-clause-files : goal.returns-clause-files
returns-clause-files c = file_at-seen

pub returns-clause-unmoved : goal.returns-clause-unmoved
returns-clause-unmoved c = seen-unmoved

pub returns-clause-own : goal.returns-clause-own
returns-clause-own c = own_file

pub returns-clause-settled : goal.returns-clause-settled
returns-clause-settled c = settled

pub returns-clause-entries : goal.returns-clause-entries
returns-clause-entries c = get-dir_moved

pub returns-clause-renamed : goal.returns-clause-renamed
returns-clause-renamed c = seen-dir_moved

pub returns-clause-texts : goal.returns-clause-texts
returns-clause-texts c = carried_texts
