use Rattle.std.proofs.Common.{◌≡◌, drop}
use Rattle.eden_objects.specs.Imports.{import_from, import_outcome}
use Rattle.eden_objects.proofs.store.Store.put_all.Given as goal

abbrev pub invariant-objects : goal.invariant-objects
invariant-objects g l = record {
  rest : import_from g.N.Naming.id l.place (drop l.place l.objects) l.self ≡ import_outcome g.N.Naming.id l.objects l.fn.self;
}
