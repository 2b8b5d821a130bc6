use Rattle.std.proofs.Common.{refl, ap, ◌∙◌}
use Rattle.std.specs.Option.{option_or}
use Rattle.eden_history.specs.declared.change.Change.TheVariants.{Reset}
use Rattle.eden_accumulate.proofs.Standing.{refusal-numbered}
use Rattle.eden_accumulate.proofs.Rooting.{commit-fault}
use Rattle.eden_accumulate.proofs.mount.Mount.reset_refusal.Goals as goal

pub returns : goal.returns
returns g c =
    λ world h.
    c.or.ensures ∙ ap (option_or c.commit_fault.result) c.number_fault.ensures
    ∙ refusal-numbered c.args.self.now (Reset c.args.commit) c.commit_fault.result world h
    (c.commit_fault.ensures ∙ commit-fault c.args.self.now world h c.args.commit) refl
