use Rattle.std.proofs.Common.{sym, subst}
use Rattle.eden_accumulate.proofs.Changing.{state}
use Rattle.eden_accumulate.proofs.Standing.{IsPresent}
use Rattle.eden_accumulate.proofs.mount.Mount.share.Goals as goal

pub invariant_of-self : goal.invariant_of-self
invariant_of-self g c =
    let m = c.self.inside in subst (λ held. IsPresent (state held m.work m.journal.log)) (sym c.share.ensures.same) c.self.invariant
