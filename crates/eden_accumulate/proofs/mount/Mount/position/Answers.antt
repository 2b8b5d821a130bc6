use Rattle.std.proofs.Common.{ap, ◌∙◌}
use Rattle.eden_accumulate.proofs.Standing.{log_position, position_is}
use Rattle.eden_accumulate.proofs.mount.Mount.position.Goals as goal

pub returns-clause-world : goal.returns-clause-world
returns-clause-world g c =
    λ world h.
    (λ i. record { generation = c.generation.ensures i; sequence = c.head.ensures.head i; root = c.root.ensures i })
    ∙ ap (λ m. log_position m.log) c.self.view_is ∙ position_is c.args.self.now world h
