use Rattle.std.proofs.Common.{◌≡◌, eqb, false, refl, ◌∙◌, arith}
use Rattle.std.proofs.lemmas.Bool.{ne_eqb}
use Rattle.std.proofs.lemmas.Result.{err_from_is_err_and}
use Rattle.eden_wire.proofs.WholeChanges.{command_whole}
use Rattle.eden_wire.proofs.command.command_of.Goals as goal

pub returns-in_err-asked : goal.returns-in_err-asked
returns-in_err-asked c =
    let p = err_from_is_err_and c.from_residual-in_err-asked.result c.from_residual-in_err-asked.ensures.1 in
    let other : eqb c.in_ok-tag.tag 6 ≡ false = ne_eqb _ _ (omega (arith, c.if-tag-eq6.false)) in
    rw (p.1, p.2) (λ told. command_whole c.args.body.now ∙ rw (c.in_ok-tag.ensures, other, c.in_err-asked.ensures told) refl)
