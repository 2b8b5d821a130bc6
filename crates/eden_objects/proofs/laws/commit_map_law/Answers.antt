use Rattle.eden_objects.proofs.CommitTexts.{commits_texts}
use Rattle.eden_objects.proofs.laws.commit_map_law.Goals as goal

pub returns-clause-texts : goal.returns-clause-texts
returns-clause-texts c = commits_texts
