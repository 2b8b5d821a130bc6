use Rattle.std.proofs.Common.{subst}
use Rattle.eden_accumulate.specs.Mounts.{StandsFor}
use Rattle.eden_accumulate.proofs.mount.Mount.stands_law.Goals as goal

pub returns : goal.returns
returns g c = (c.self.invariant.0, subst (λ s. StandsFor s c.self.invariant.0) c.self.view_is c.self.invariant.1)
