use Rattle.std.proofs.Common.{sym, subst}
use Rattle.eden_accumulate.proofs.Changing.{state}
use Rattle.eden_accumulate.proofs.Standing.{IsPresent}
use Rattle.eden_accumulate.proofs.Importing.{import_answered, import_follows, imported_present}
use Rattle.eden_accumulate.proofs.mount.Mount.import.Goals as goal

pub invariant_of-self : goal.invariant_of-self
invariant_of-self g c =
    let m = c.self.inside in
    imported_present g.N.Naming.id c.args.objects.now m.store c.import.new.self m.work m.journal.log
    c.closed_law.ensures.closed c.closed_law.ensures.named c.closed_law-in-Ok.ensures.small c.in-Ok.ensures.ok c.self.invariant

pub invariant_of-self-in-Err-BadObject : goal.invariant_of-self-in-Err-BadObject
invariant_of-self-in-Err-BadObject g c =
    let m = c.self.inside in subst (λ held. IsPresent (state held m.work m.journal.log)) (sym c.in-Err-BadObject.ensures.err) c.self.invariant

pub invariant_of-self-in-Err-NoMemory : goal.invariant_of-self-in-Err-NoMemory
invariant_of-self-in-Err-NoMemory g c =
    let m = c.self.inside in subst (λ held. IsPresent (state held m.work m.journal.log)) (sym c.in-Err-NoMemory.ensures.err) c.self.invariant

pub returns-in-Ok-clause-answers : goal.returns-in-Ok-clause-answers
returns-in-Ok-clause-answers g c = import_answered g.N.Naming.id c.args.objects.now c.position.result c.self.view_is c.in-Ok.ensures.ok c.position.ensures.log

pub returns-in-Ok-clause-stands : goal.returns-in-Ok-clause-stands
returns-in-Ok-clause-stands g c =
    import_follows g.N.Naming.id c.args.objects.now c.self.view_is
    c.closed_law.ensures.closed c.closed_law.ensures.named c.closed_law-in-Ok.ensures.small c.in-Ok.ensures.ok
