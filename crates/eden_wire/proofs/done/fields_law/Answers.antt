use Rattle.std.proofs.Common.{subst}
use Rattle.std.specs.List.{AllByRecursion}
use Rattle.eden_ids.specs.Texts.{IsPathText}
use Rattle.eden_wire.proofs.AnswerLaws.{checked_fits, conflicting_fits}
use Rattle.eden_wire.proofs.done.fields_law.Goals as goal

pub returns-in-Checked : goal.returns-in-Checked
returns-in-Checked c =
    let checked = c.in-Checked in
    checked_fits c.args.done.now checked.position checked.conflicts checked.is c.requires c.position_law-in-Checked.ensures
    (subst (AllByRecursion IsPathText) c.as_slice.ensures c.paths_law.ensures)

pub returns-in-Conflicting : goal.returns-in-Conflicting
returns-in-Conflicting c =
    let many = c.in-Conflicting in
    conflicting_fits c.args.done.now many.position many.count many.is c.position_law-in-Conflicting.ensures c.count_law.ensures
