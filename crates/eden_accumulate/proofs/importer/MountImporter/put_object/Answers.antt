use Rattle.std.proofs.Common.{sym, subst}
use Rattle.eden_objects.specs.Payloads.{payload_bytes}
use Rattle.eden_history.specs.Imports.{over_held}
use Rattle.eden_accumulate.specs.Mounts.{StandsFor}
use Rattle.eden_accumulate.proofs.Importing.{put_stands}
use Rattle.eden_accumulate.proofs.importer.MountImporter.put_object.Goals as goal

pub invariant_of-self : goal.invariant_of-self
invariant_of-self g c =
    let m = c.self.inside in (
      over_held c.self.invariant.0 c.put_object-put.new.self,
      put_stands g.N.Naming.id (record { object_type = c.args.object_type; payload = payload_bytes c.args.payload }) m.store c.put_object-put.new.self m.work m.journal.log c.put_object-put.result
          c.closed_law.ensures.closed c.closed_law.ensures.named c.closed_law-2.ensures.small c.put_object-put.ensures.ok c.put_object-put.ensures.err c.self.invariant.0 c.self.invariant.1,
    )

pub returns-clause-stands : goal.returns-clause-stands
returns-clause-stands g c = λ world h.
    let m = c.self.inside in
    put_stands g.N.Naming.id (record { object_type = c.args.object_type; payload = payload_bytes c.args.payload }) m.store c.put_object-put.new.self m.work m.journal.log c.put_object-put.result
    c.closed_law.ensures.closed c.closed_law.ensures.named c.closed_law-2.ensures.small c.put_object-put.ensures.ok c.put_object-put.ensures.err
    world (subst (λ s. StandsFor s world) (sym c.self.view_is) h)
