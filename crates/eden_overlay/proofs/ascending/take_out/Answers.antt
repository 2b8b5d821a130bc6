use Rattle.std.proofs.Common.{Some, true, false, subst, sym, ap, ◌∙◌}
use Rattle.eden_overlay.specs.Places.{place}
use Rattle.eden_overlay.specs.internal.There.{IsThere}
use Rattle.eden_overlay.proofs.Placing.{out_there, not_there, sorted_without, told_is, not_told}
use Rattle.eden_overlay.proofs.ascending.take_out.Goals as goal

pub returns-then-is_there-clause-left : goal.returns-then-is_there-clause-left
returns-then-is_there-clause-left g c =
    let there : IsThere true c.args.path.now c.args.entries.now.items c.place_of-at.result =
    subst (λ b. IsThere b c.args.path.now c.args.entries.now.items c.place_of-at.result) c.if-is_there.true
    (subst (λ es. IsThere c.is_there.result c.args.path.now es c.place_of-at.result) c.deref-2.ensures.value c.is_there.ensures) in
    c.remove.ensures.items
    ∙ out_there c.args.path.now c.args.entries.now.items c.place_of-at.result c.requires (c.place_of-at.ensures.is ∙ ap (place c.args.path.now) c.deref.ensures.value) there

pub returns-then-is_there-clause-sorted : goal.returns-then-is_there-clause-sorted
returns-then-is_there-clause-sorted g c = sorted_without c.args.path.now c.args.entries.now.items _ c.requires (returns-then-is_there-clause-left g c)

pub returns-clause-left : goal.returns-clause-left
returns-clause-left g c =
    let apart : IsThere false c.args.path.now c.args.entries.now.items c.place_of-at.result =
    subst (λ b. IsThere b c.args.path.now c.args.entries.now.items c.place_of-at.result) c.if-is_there.false
    (subst (λ es. IsThere c.is_there.result c.args.path.now es c.place_of-at.result) c.deref-2.ensures.value c.is_there.ensures) in
    not_there c.args.path.now c.args.entries.now.items c.place_of-at.result c.requires (c.place_of-at.ensures.is ∙ ap (place c.args.path.now) c.deref.ensures.value) apart

pub returns-then-is_there-clause-there : goal.returns-then-is_there-clause-there
returns-then-is_there-clause-there g c =
    let there : IsThere true c.args.path.now c.args.entries.now.items c.place_of-at.result =
    subst (λ b. IsThere b c.args.path.now c.args.entries.now.items c.place_of-at.result) c.if-is_there.true
    (subst (λ es. IsThere c.is_there.result c.args.path.now es c.place_of-at.result) c.deref-2.ensures.value c.is_there.ensures) in
    ap (λ e. Some e.1) c.remove.ensures.value
    ∙ told_is c.args.path.now c.args.entries.now.items c.place_of-at.result c.remove.result (c.place_of-at.ensures.is ∙ ap (place c.args.path.now) c.deref.ensures.value) there

pub returns-clause-there : goal.returns-clause-there
returns-clause-there g c =
    let apart : IsThere false c.args.path.now c.args.entries.now.items c.place_of-at.result =
    subst (λ b. IsThere b c.args.path.now c.args.entries.now.items c.place_of-at.result) c.if-is_there.false
    (subst (λ es. IsThere c.is_there.result c.args.path.now es c.place_of-at.result) c.deref-2.ensures.value c.is_there.ensures) in
    sym (not_told c.args.path.now c.args.entries.now.items c.requires
    (subst (IsThere false c.args.path.now c.args.entries.now.items) (c.place_of-at.ensures.is ∙ ap (place c.args.path.now) c.deref.ensures.value) apart))
