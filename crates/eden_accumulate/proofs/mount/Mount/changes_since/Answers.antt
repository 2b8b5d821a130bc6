use Rattle.std.proofs.Common.{ap, ◌∙◌}
use Rattle.eden_ranges.specs.Expanded.{expanded}
use Rattle.eden_ranges.proofs.Only.{all_admitted}
use Rattle.eden_accumulate.specs.Mounts.{State}
use Rattle.eden_accumulate.proofs.mount.Mount.changes_since.Goals as goal

pub returns-in-Ok-expand_admitted-clause-marked : goal.returns-in-Ok-expand_admitted-clause-marked
returns-in-Ok-expand_admitted-clause-marked g c = λ world h.
    c.in-Ok-expand_admitted.ensures.marked
    ∙ all_admitted c.all.result (expanded c.self.inside.store c.in-Ok.due) c.all.ensures
    ∙ ap (λ (m : State). expanded m.held c.in-Ok.due) c.self.view_is
    ∙ c.in-Ok.ensures.tells world h

pub returns-in-Ok-expand_admitted-clause-prefixes : goal.returns-in-Ok-expand_admitted-clause-prefixes
returns-in-Ok-expand_admitted-clause-prefixes g c = λ world h. c.in-Ok-expand_admitted.ensures.prefixes ∙ c.in-Ok.ensures.prefixes world h
