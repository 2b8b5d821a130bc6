-- The changing ends as the telling of its lines does.
use Rattle.std.proofs.Common.{arith, refl, sym, ◌∙◌, subst}
use Rattle.eden_edend.specs.Changings.{EndsChanging}
use Rattle.eden_edend.proofs.ChangingEnds.{changing_ends, own_fault}
use Rattle.eden_edend.proofs.changer.run_changes.Goals as goal

pub returns-clause-ends : goal.returns-clause-ends
returns-clause-ends g c =
    let made = g.C.Changer.made in
    let lost = g.C.Changer.lost in
    let old = c.args.changer.now in
    let new = c.tell_lines-outcome.new.server in
    subst (EndsChanging made lost c.args.labels.now c.args.from _ _ old new) (sym c.numbered.ensures)
    (changing_ends made lost c.args.labels.now c.args.from _ _ _ _ old new c.tell_lines-outcome.result
    (λ e. omega (arith, c.tell_lines-outcome.ensures.write e)) (c.tell_lines-outcome.ensures.ends old refl))

pub returns-clause-read : goal.returns-clause-read
returns-clause-read g c = λ e. c.tell_lines-outcome.ensures.read ((own_fault c.args.from c.tell_lines-outcome.result).read (sym c.numbered.ensures ∙ e))

pub returns-clause-turns_spent : goal.returns-clause-turns_spent
returns-clause-turns_spent g c = λ e. c.tell_lines-outcome.ensures.turns_spent ((own_fault c.args.from c.tell_lines-outcome.result).turns_spent (sym c.numbered.ensures ∙ e))
