use Rattle.std.proofs.Common.{◌≡◌, sym, ap, subst, ◌∙◌}
use Rattle.eden_accumulate.specs.Mounts.{State, StandsFor}
use Rattle.eden_accumulate.proofs.Changing.{state}
use Rattle.eden_accumulate.proofs.mount.Mount.copy.Goals as goal

pub invariant_of-result : goal.invariant_of-result
invariant_of-result g c =
    let store : c.in_ok-store.store ≡ c.self.inside.store = c.in_ok-store.ensures.copy ∙ sym (ap (λ (m : State). m.held) c.self.view_is) in (
      c.self.invariant.0,
      subst (λ s. StandsFor s c.self.invariant.0) (λ i. state (sym store i) (sym c.in_ok-work.ensures i) (sym c.in_ok-journal.ensures i)) c.self.invariant.1,
    )
