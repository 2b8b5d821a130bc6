use Rattle.std.proofs.Common.{◌≡◌, ◌&&◌, ◌||◌, true, false, refl, sym, ap, subst, ◌∙◌}
use Rattle.std.specs.Prelude.{IsSome}
use Rattle.std.specs.List.{list_any}
use Rattle.std.specs.FinMap as fin
use Rattle.eden_ids.specs.Paths.{lies_below}
use Rattle.eden_overlay.specs.Carried.{breaks}
use Rattle.eden_overlay.specs.Layers.{Entry}
use Rattle.eden_overlay.proofs.CarriedLayers.{each_put, is_carried, unbroken, unmoved, unsaid}
use Rattle.eden_overlay.proofs.overlay.Overlay.carry.Goals as goal

pub returns-then-not-has_entry_below-2-clause-carried : goal.returns-then-not-has_entry_below-2-clause-carried
returns-then-not-has_entry_below-2-clause-carried c =
    unmoved c.args.self.now c.args.old.now c.args.new.now
    (sym c.has_entry_below.ensures ∙ c.if-not-has_entry_below.true)
    (sym c.has_entry_below-then-not-has_entry_below.ensures ∙ c.if-not-has_entry_below-2.true)

pub returns-then-not-has_entry_below-2-clause-accepts : goal.returns-then-not-has_entry_below-2-clause-accepts
returns-then-not-has_entry_below-2-clause-accepts c =
    λ p there below.
    let none = unsaid c.args.self.now c.args.old.now (sym c.has_entry_below.ensures ∙ c.if-not-has_entry_below.true) p below in
    absurd (let bad : false ≡ true = subst IsSome none there in cc)

pub loop-entry-init : goal.loop-entry-init
loop-entry-init c = record {
  put = ap (λ m. each_put c.args.old.now c.args.new.now m c.into_iter-entry-iterator.result) c.new-next.ensures;
  whole = refl;
}

pub loop-entry-preserved : goal.loop-entry-preserved
loop-entry-preserved c =
    let old = c.args.old.now in
    let new = c.args.new.now in
    let rest = c.next.new.self in
    let is = c.in-Some.ensures.steps in
    record {
      put = ap (λ m. each_put old new m rest) c.in_ok-put_carried.ensures.put ∙ sym (ap (each_put old new c.loop-entry.next) is) ∙ c.loop-entry.invariant.put;
      whole = sym (ap (list_any {X = Entry} (λ e. lies_below e.0 old && breaks old new e.0)) is
          ∙ ap (λ b. b || list_any {X = Entry} (λ e. lies_below e.0 old && breaks old new e.0) rest) c.in_ok-put_carried.ensures.accepts)
          ∙ c.loop-entry.invariant.whole;
    }

pub returns-clause-carried : goal.returns-clause-carried
returns-clause-carried c =
    let old = c.args.old.now in
    let new = c.args.new.now in
    is_carried c.args.self.now c.loop-entry.next old new
    (sym (ap (each_put old new fin.empty) (c.into_iter-entry-iterator.ensures.into_iter_gives ∙ c.entries-entry-items.ensures))
    ∙ sym c.loop-entry.invariant.put
    ∙ ap (each_put old new c.loop-entry.next) c.in-None.ensures.steps.0)

pub returns-clause-accepts : goal.returns-clause-accepts
returns-clause-accepts c =
    let old = c.args.old.now in
    let new = c.args.new.now in
    unbroken c.args.self.now old new
    (sym (ap (list_any {X = Entry} (λ e. lies_below e.0 old && breaks old new e.0)) (c.into_iter-entry-iterator.ensures.into_iter_gives ∙ c.entries-entry-items.ensures))
    ∙ sym c.loop-entry.invariant.whole
    ∙ ap (list_any {X = Entry} (λ e. lies_below e.0 old && breaks old new e.0)) c.in-None.ensures.steps.0)
