use Rattle.std.proofs.Common.{ap, ◌∙◌}
use Rattle.eden_treediff.specs.internal.Columns.{entries_lent}
use Rattle.eden_treediff.specs.internal.Merging.{Rests}
use Rattle.eden_treediff.specs.internal.Pairs.{first_of}
use Rattle.eden_treediff.proofs.Merging.{first_left}
use Rattle.eden_treediff.proofs.merge.Merge.right_entry.Goals as goal

pub returns : goal.returns
returns c =
    c.next.ensures ∙ first_left (entries_lent c.self.inside.right.rows) c.self.inside.right.row ∙ ap (λ (rests : Rests). first_of rests.1) c.self.view_is
