use Rattle.std.specs.Prelude.{nat_eq}
use Rattle.std.proofs.lemmas.Bool.Decides.{Decides-eqb}
use Rattle.eden_lanes.proofs.RowLaws.{increasing_rows, rows_apart}
use Rattle.eden_lanes.proofs.laws.kinds_law.Goals as goal

pub returns-clause-apart : goal.returns-clause-apart
returns-clause-apart c a b long = rows_apart nat_eq Decides-eqb a b long

pub returns-clause-ascend : goal.returns-clause-ascend
returns-clause-ascend c a b = increasing_rows nat_eq a b
