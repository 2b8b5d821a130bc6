use Rattle.std.proofs.Common.{sym, ◌∙◌}
use Rattle.eden_workcopy.proofs.Works.{present_below, unspoken_below}
use Rattle.eden_workcopy.proofs.working.has_below_over.Goals as goal

pub returns-then-has_file_below : goal.returns-then-has_file_below
returns-then-has_file_below g c =
    sym (present_below c.args.base.now c.args.overlay.now c.args.path.now (sym c.has_file_below.ensures ∙ c.if-has_file_below.true))

pub returns : goal.returns
returns g c =
    c.has_below_but.ensures ∙ unspoken_below c.args.base.now c.args.overlay.now c.args.path.now (sym c.has_file_below.ensures ∙ c.if-has_file_below.false)
