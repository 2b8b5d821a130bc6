use Rattle.eden_ids.proofs.FileMapLemmas.{has-union, path_set-listing, same_path_set}
use Rattle.eden_ids.proofs.laws.path_set_law.Goals as goal

pub returns-clause-union : goal.returns-clause-union
returns-clause-union c = has-union

pub returns-clause-listing : goal.returns-clause-listing
returns-clause-listing c = path_set-listing

pub returns-clause-whole : goal.returns-clause-whole
returns-clause-whole c = same_path_set
