use Rattle.std.proofs.Common.{rules, ◌≡◌, ◌+◌, ◌∙◌, ◌<◌, drop, get_or, length, sym}
use Rattle.eden_objects.specs.Imports.{import_from, put_of}
use Rattle.eden_objects.proofs.Importing.{first_refused, next_object}
use Rattle.eden_objects.proofs.store.Store.put_all.Goals as goal

pub returns-in-Err-clause-refuses : goal.returns-in-Err-clause-refuses
returns-in-Err-clause-refuses g c other =
    let there : c.objects.place < length c.args.objects.now = search rules in
    let is : c.index-objects-place.result ≡ get_or c.args.objects.now c.objects.place c.index-objects-place.result = search rules in
    let named = g.N.Naming.id in
    let behind = import_from named (c.objects.place + 1) (drop (c.objects.place + 1) c.args.objects.now) in
    sym c.objects.invariant.rest
    ∙ next_object named c.args.objects.now c.objects.place c.index-objects-place.result c.objects.self there is
    ∙ rw c.refused.ensures
    (first_refused c.objects.place c.in-Err.fault (put_of named c.index-objects-place.result c.objects.self) behind
    c.in-Err.ensures.refuses
    (rw (← c.refused.ensures) other))
