use Rattle.std.proofs.Common.{rules}
use Rattle.eden_objects.specs.Files.{commit_files}
use Rattle.eden_history.specs.Worlds.{opened}
use Rattle.eden_accumulate.proofs.Standing.{opened_stands}
use Rattle.eden_accumulate.proofs.mount.Mount.mount.Goals as goal

pub returns-clause-stands : goal.returns-clause-stands
returns-clause-stands g c =
    opened_stands g.N.Naming.id c.args.store c.in-Ok.work c.new-2.result.log c.args.generation c.args.limit c.args.root (search rules) (search rules)
    (search rules) (search rules) c.id_law.ensures (search rules) (search rules) (search rules) c.new-2.ensures.stands

pub invariant_of-result : goal.invariant_of-result
invariant_of-result g c =
    let held = c.args.store in (
      opened held c.args.generation c.args.limit c.args.root (commit_files held c.args.root),
      opened_stands g.N.Naming.id held c.in-Ok.work c.new-2.result.log c.args.generation c.args.limit c.args.root (search rules) (search rules)
          (search rules) (search rules) c.id_law.ensures (search rules) (search rules) (search rules) c.new-2.ensures.stands,
    )
