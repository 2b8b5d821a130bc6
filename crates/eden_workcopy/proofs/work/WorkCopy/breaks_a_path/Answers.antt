use Rattle.std.proofs.Common.{◌∙◌, ap}
use Rattle.eden_history.specs.DirRenames.{breaks_a_path}
use Rattle.eden_workcopy.proofs.CarriedWhole.{unplaced}
use Rattle.eden_workcopy.proofs.work.WorkCopy.breaks_a_path.Goals as goal

pub returns : goal.returns
returns g c =
    let old = c.args.old.now in
    let new = c.args.new.now in
    c.has_below_but.ensures ∙ unplaced c.base_at-base.result old new ∙ ap (λ files. breaks_a_path files old new) c.base_at-base.ensures
