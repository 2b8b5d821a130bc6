use Rattle.eden_overlay.proofs.Overs.{file_at-over, over-insert, over-remove}
use Rattle.eden_overlay.proofs.laws.over_law.Goals as goal

pub returns-clause-at : goal.returns-clause-at
returns-clause-at c = file_at-over

pub returns-clause-insert : goal.returns-clause-insert
returns-clause-insert c = over-insert

pub returns-clause-remove : goal.returns-clause-remove
returns-clause-remove c = over-remove
