use Rattle.std.proofs.Common.{◌≡◌, false, is_some, map, not, rules, refl, ap, ◌∙◌}
use Rattle.eden_history.specs.declared.change.Change.TheVariants.{Checkout}
use Rattle.eden_ids.specs.FileMaps.{file_at}
use Rattle.eden_history.specs.Checkouts.{is_dry}
use Rattle.eden_workcopy.proofs.Rerooted.{no_memory_else}
use Rattle.eden_accumulate.specs.internal.Rows.{Follows}
use Rattle.eden_accumulate.proofs.Standing.{answered, still_present}
use Rattle.eden_accumulate.proofs.Changing.{kept, left, state}
use Rattle.eden_accumulate.proofs.Rooting.{checked-answer, checkout_follows, commit_judged}
use Rattle.eden_accumulate.proofs.mount.Mount.checkout.Given as given
use Rattle.eden_accumulate.proofs.mount.Mount.checkout.Goals as goal
use Rattle.eden_accumulate.proofs.mount.Mount.checkout.Goals.{After-append_checkout}

pub unreachable-requires : goal.unreachable-requires
unreachable-requires g c =
    commit_judged (Checkout c.args.commit c.args.mode) c.args.commit c.self.view_is c.self.invariant c.in_default.ensures (λ commits row. refl)
    (c.in-Err-NoCommit.ensures.refuses (no_memory_else c.in-Err-NoCommit.field-0 c.in-Err-NoCommit.field-0-is))

pub invariant_of-self : goal.invariant_of-self
invariant_of-self g c = kept refl c.reserve.ensures.log c.self.invariant

pub append_checkout-requires-clause-below : goal.append_checkout-requires-clause-below
append_checkout-requires-clause-below g c =
    let real : is_dry c.args.mode ≡ false = search rules in
    left c.self.view_is c.self.invariant c.reserve.ensures.log (Checkout c.args.commit c.args.mode) c.checkout_refusal.result c.checkout_refusal.ensures c.in_default.is (ap not real)

-- after it the mount follows
follows : (g : given.Over) (c : After-append_checkout g) → Follows c.args.self.now (Checkout c.args.commit c.args.mode) (state c.self.inside.store c.in-Ok.planned.next c.append_checkout.new.self.log)
follows g c =
    let real : is_dry c.args.mode ≡ false = search rules in
    let flagged = c.in_ok-before.ensures ∙ (λ i. map (λ path. is_some (file_at (c.over-files.ensures i) path)) (c.as_slice.ensures i)) in
    checkout_follows c.args.commit c.args.mode c.self.view_is c.in_default.ensures c.id_law.ensures real c.in-Ok.ensures.fits c.in-Ok.ensures.root c.in-Ok.ensures.files
    c.in-Ok.planned.unclean c.in-Ok.ensures.unclean c.in_ok-before.before flagged c.reserve.ensures.log c.append_checkout.ensures.stands

pub returns-clause-stands : goal.returns-clause-stands
returns-clause-stands g c = follows g (goal.at.returns-clause-stands g c).After-append_checkout

pub invariant_of-self-2 : goal.invariant_of-self-2
invariant_of-self-2 g c = still_present (Checkout c.args.commit c.args.mode) c.self.view_is c.self.invariant (follows g (goal.at.invariant_of-self-2 g c).After-append_checkout)

pub returns-clause-answers : goal.returns-clause-answers
returns-clause-answers g c =
    λ world h.
    let m = c.self.inside in
    answered (Checkout c.args.commit c.args.mode) c.position-2.result c.in_default.ensures (returns-clause-stands g c) c.position-2.ensures.world world h
    ∙ checked-answer m.store m.work m.journal.log c.args.self.now c.self.view_is world h
    c.args.commit c.args.mode c.in-Ok.planned.conflicts c.position-2.result c.in-Ok.ensures.conflicts
