use Rattle.std.proofs.Common.{◌≡◌, rules, ap, ◌∙◌}
use Rattle.std.specs.List.{list_any}
use Rattle.eden_ids.specs.FileMaps.{no_files, paths}
use Rattle.eden_world.specs.internal.Carrying.{breaks}
use Rattle.eden_world.proofs.CarryingLaws.{carry_all, carry-whole}
use Rattle.eden_world.proofs.carrying.carried_files.Goals as goal

pub loop-path-init : goal.loop-path-init
loop-path-init c =
    let files = c.args.files.now in
    let old = c.args.old.now in
    let new = c.args.new.now in
    let all : c.into_iter-path-iterator.result ≡ paths files = search rules in
    let none : c.new-next.result ≡ no_files = search rules in (
      (λ i. carry_all files old new (none i) (all i)) ∙ carry-whole files old new,
      ap (list_any (breaks old new)) all ∙ search rules,
    )
