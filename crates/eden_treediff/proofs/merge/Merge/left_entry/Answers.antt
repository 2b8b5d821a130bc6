use Rattle.std.proofs.Common.{ap, ◌∙◌}
use Rattle.eden_treediff.specs.internal.Columns.{entries_lent}
use Rattle.eden_treediff.specs.internal.Merging.{Rests}
use Rattle.eden_treediff.specs.internal.Pairs.{first_of}
use Rattle.eden_treediff.proofs.Merging.{first_left}
use Rattle.eden_treediff.proofs.merge.Merge.left_entry.Goals as goal

pub returns : goal.returns
returns c =
    c.next.ensures ∙ first_left (entries_lent c.self.inside.left.rows) c.self.inside.left.row ∙ ap (λ (rests : Rests). first_of rests.0) c.self.view_is
