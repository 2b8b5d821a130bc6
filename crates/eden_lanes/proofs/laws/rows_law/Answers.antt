use Rattle.eden_ids.specs.Sameness.{same_id}
use Rattle.eden_lanes.proofs.RowLaws.{increasing_rows, rows_apart, same_id-Decides}
use Rattle.eden_lanes.proofs.laws.rows_law.Goals as goal

pub returns-clause-apart : goal.returns-clause-apart
returns-clause-apart c a b long = rows_apart same_id same_id-Decides a b long

pub returns-clause-ascend : goal.returns-clause-ascend
returns-clause-ascend c a b = increasing_rows same_id a b
