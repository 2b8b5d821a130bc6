use Rattle.std.proofs.Common.{arith, sym, ◌∙◌}
use Rattle.eden_ids.proofs.TreeQuestions.{stands_above, none_stands}
use Rattle.eden_ids.proofs.file_tree.has_file_above.Goals as goal

pub returns-then-stands_before : goal.returns-then-stands_before
returns-then-stands_before g c =
    sym (stands_above _ c.args.path.now c.loop-at.at (omega arith) (sym c.stands_before.ensures ∙ c.if-stands_before.true))

pub returns : goal.returns
returns g c =
    sym (none_stands _ c.args.path.now (λ i within. c.loop-at.invariant.none i (omega arith)))
