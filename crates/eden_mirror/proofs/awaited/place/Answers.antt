use Rattle.std.proofs.Common.{not, is_some, sym, ap, ◌∙◌}
use Rattle.eden_mirror.proofs.Pending.{is_among-pending, waits}
use Rattle.eden_mirror.proofs.awaited.place.Goals as goal

pub returns-in_err-at-clause-awaited : goal.returns-in_err-at-clause-awaited
returns-in_err-at-clause-awaited c =
    ap is_some c.from_residual.ensures
    ∙ ap waits c.in_err-at.ensures.value
    ∙ sym (is_among-pending c.args.path.now c.args.paths.now.entries c.requires)

pub returns-then-answered-clause-awaited : goal.returns-then-answered-clause-awaited
returns-then-answered-clause-awaited c =
    sym (ap not c.if-answered.true)
    ∙ ap waits c.in_ok-at.ensures.value
    ∙ sym (is_among-pending c.args.path.now c.args.paths.now.entries c.requires)

pub returns-else-answered-clause-awaited : goal.returns-else-answered-clause-awaited
returns-else-answered-clause-awaited c =
    sym (ap not c.if-answered.false)
    ∙ ap waits c.in_ok-at.ensures.value
    ∙ sym (is_among-pending c.args.path.now c.args.paths.now.entries c.requires)
