use Rattle.std.proofs.Common.{rules, subst}
use Rattle.eden_ids.specs.Texts.{IsIdText}
use Rattle.eden_accumulate.specs.Mounts.{begun_at}
use Rattle.eden_accumulate.proofs.Standing.{begun_stands}
use Rattle.eden_accumulate.proofs.Changing.{state}
use Rattle.eden_accumulate.proofs.mount.Mount.from_parts.Goals as goal

pub invariant_of-result : goal.invariant_of-result
invariant_of-result g c =
    let m = state c.args.store c.args.work c.args.journal.log in
    (begun_at m, begun_stands g.N.Naming.id m (search rules) (search rules) (search rules) (search rules) (search rules) (subst IsIdText c.root.ensures c.id_law.ensures) c.requires.fits c.requires.root c.head.ensures.stands c.requires.nothing)

pub returns-clause-stands : goal.returns-clause-stands
returns-clause-stands g c =
    begun_stands g.N.Naming.id (state c.args.store c.args.work c.args.journal.log) (search rules) (search rules) (search rules) (search rules) (search rules)
    (subst IsIdText c.root.ensures c.id_law.ensures) c.requires.fits c.requires.root
    c.head.ensures.stands c.requires.nothing
