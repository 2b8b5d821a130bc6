use Rattle.std.proofs.Common.{None, Some, sym, ap, subst, ◌∙◌}
use Rattle.eden_journal.specs.Histories.{StandsFor}
use Rattle.eden_ranges.specs.Histories.{history_of}
use Rattle.eden_ranges.specs.declared.ranges.Range.{Range}
use Rattle.eden_ranges.specs.Since.{head_position, log_status}
use Rattle.eden_accumulate.specs.Mounts.{State}
use Rattle.eden_accumulate.proofs.Ranging.{ends_now, is_status}
use Rattle.eden_accumulate.proofs.mount.Mount.owe_since.Goals as goal

pub returns-in-Ok-clause-accepts : goal.returns-in-Ok-clause-accepts
returns-in-Ok-clause-accepts g c =
    is_status c.args.self.now c.args.position.now None
    (ap (λ (m : State). log_status m.log c.args.position.now) (sym c.self.view_is) ∙ c.in-Ok.ensures.refused)

pub returns-in-Ok-clause-ends : goal.returns-in-Ok-clause-ends
returns-in-Ok-clause-ends g c = λ world h.
    ap (λ (r : Range). r.to) c.in-Ok.ensures.range
    ∙ ap (λ (m : State). head_position m.log) c.self.view_is
    ∙ ends_now c.args.self.now c.args.position.now.sequence world h

pub returns-in-Err-clause-refuses : goal.returns-in-Err-clause-refuses
returns-in-Err-clause-refuses g c = λ apart.
    is_status c.args.self.now c.args.position.now (Some c.in-Err.fault)
    (ap (λ (m : State). log_status m.log c.args.position.now) (sym c.self.view_is) ∙ c.in-Err.ensures.refused apart)

pub returns-in-Ok-clause-from : goal.returns-in-Ok-clause-from
returns-in-Ok-clause-from g c = ap (λ (r : Range). r.from) c.in-Ok.ensures.range

pub returns-in-Ok-clause-changes : goal.returns-in-Ok-clause-changes
returns-in-Ok-clause-changes g c = λ world h.
    ap (λ (r : Range). r.changes) (c.in-Ok.ensures.since world h.is_world.1.legal (subst (λ (m : State). StandsFor m.log (history_of world)) (sym c.self.view_is) h.log))

pub returns-in-Ok-clause-unclean : goal.returns-in-Ok-clause-unclean
returns-in-Ok-clause-unclean g c = λ world h.
    ap (λ (r : Range). r.unclean) (c.in-Ok.ensures.since world h.is_world.1.legal (subst (λ (m : State). StandsFor m.log (history_of world)) (sym c.self.view_is) h.log))

pub returns-in-Ok-clause-roots : goal.returns-in-Ok-clause-roots
returns-in-Ok-clause-roots g c = λ world h.
    ap (λ (r : Range). r.roots) (c.in-Ok.ensures.since world h.is_world.1.legal (subst (λ (m : State). StandsFor m.log (history_of world)) (sym c.self.view_is) h.log))
