use Rattle.std.proofs.Common.{◌≡◌, true, false, not, rules, ap, ◌∙◌}
use Rattle.std.specs.Option.{option_or}
use Rattle.eden_history.specs.declared.change.Change.TheVariants.{Checkout}
use Rattle.eden_history.specs.Checkouts.{is_dry}
use Rattle.eden_accumulate.proofs.Standing.{refusal-free, refusal-numbered}
use Rattle.eden_accumulate.proofs.Rooting.{commit-fault}
use Rattle.eden_accumulate.proofs.mount.Mount.checkout_refusal.Goals as goal

pub returns-then-is_dry : goal.returns-then-is_dry
returns-then-is_dry g c =
    λ world h.
    let dry : is_dry c.args.mode ≡ true = search rules in
    refusal-free world (Checkout c.args.commit c.args.mode) c.commit_fault-fault.result
    (c.commit_fault-fault.ensures ∙ commit-fault c.args.self.now world h c.args.commit) (ap not dry)

pub returns : goal.returns
returns g c =
    λ world h.
    let real : is_dry c.args.mode ≡ false = search rules in
    c.or.ensures ∙ ap (option_or c.commit_fault-fault.result) c.number_fault.ensures
    ∙ refusal-numbered c.args.self.now (Checkout c.args.commit c.args.mode) c.commit_fault-fault.result world h
    (c.commit_fault-fault.ensures ∙ commit-fault c.args.self.now world h c.args.commit) (ap not real)
