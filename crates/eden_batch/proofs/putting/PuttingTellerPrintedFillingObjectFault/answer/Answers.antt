-- The object of an item is put, and its id noted.
use Rattle.std.proofs.Common.{◌≢◌, ◌∷◌, ◌++◌, [], ◌∙◌, ap, arith, inr, refl, sym, subst, take, Err, Ok}
use Rattle.std.proofs.lemmas.List.{length-take}
use Rattle.eden_batch.specs.declared.fault.ObjectFault.TheVariants.{OtherId}
use Rattle.eden_batch.specs.internal.Loads.{Fills, HaltsAt}
use Rattle.eden_batch.proofs.Fillings.{fails_at, fills_more, halts_at, id_is, never_lacks, other_id, outcome_is, put_own, puts_is, puts_of, same_still, tells_refused, there}
use Rattle.eden_batch.proofs.putting.PuttingTellerPrintedFillingObjectFault.answer.Goals as goal

pub unreachable-requires : goal.unreachable-requires
unreachable-requires g c = never_lacks c.args.item.now c.requires c.in_default.field-0 c.in_default.ensures

pub slice_bounds-payload-end : goal.slice_bounds-payload-end
slice_bounds-payload-end g c =
    let read = c.in-Ok.ensures in
    omega (arith, length-take c.in-Ok.header.size c.in-Ok.behind.now, there c.args.item.now c.requires c.in-Ok.header c.in-Ok.behind.now read.0 read.1)

pub returns-in-Ok-put_object : goal.returns-in-Ok-put_object
returns-in-Ok-put_object g c = λ before items sent told.
    let taker = g.I.Importer in
    let item = c.args.item.now in
    let h = c.in-Ok.header in
    let behind = c.in-Ok.behind.now in
    let held = taker.held c.args.filling.now.into.now in
    let new = taker.held c.put_object.new.self in
    let read = c.in-Ok.ensures in
    let id = c.in-Ok-put_object.id in
    let other : id ≢ c.requires.0.id = λ e. other_id id h.id c.if-ne.ensures (e ∙ sym (id_is item c.requires h behind read.0 read.1)) in
    let outcome = outcome_is item c.requires h behind read.0 read.1 taker.name held (Ok (id, new)) c.in-Ok-put_object.ensures.ok in (
      same_still taker.name taker.held taker.over taker.laws before c.args.filling.now _ told.0 refl refl c.put_object.ensures.only,
      fails_at told.1 new item OtherId c.requires (id, other, outcome),
    )

pub returns-in-Ok-push : goal.returns-in-Ok-push
returns-in-Ok-push g c = λ before items sent told.
    let taker = g.I.Importer in
    let item = c.args.item.now in
    let held = taker.held c.args.filling.now.into.now in
    let new = taker.held c.put_object.new.self in
    let read = c.in-Ok.ensures in
    let put =
    put_own item c.requires c.in-Ok.header c.in-Ok.behind.now read.0 read.1 taker.name held new c.in-Ok-put_object.id c.if-ne.ensures c.in-Ok-put_object.ensures.ok in
    let noted = c.in-Ok-push.ensures.items ∙ ap (λ i. c.args.filling.now.ids.now.items ++ i ∷ []) put.0 in (
      same_still taker.name taker.held taker.over taker.laws before c.args.filling.now _ told.0 refl refl c.put_object.ensures.only,
      subst (λ l. Fills taker.name (taker.held before.into.now) new before.ids.now.items l (items ++ item ∷ [])) (sym noted) (fills_more told.1 new item c.requires put.1),
    )

pub returns-in-Err-push : goal.returns-in-Err-push
returns-in-Err-push g c = λ before items sent told.
    let taker = g.I.Importer in
    let item = c.args.item.now in
    let held = taker.held c.args.filling.now.into.now in
    let new = taker.held c.put_object.new.self in
    let read = c.in-Ok.ensures in
    let put =
    put_own item c.requires c.in-Ok.header c.in-Ok.behind.now read.0 read.1 taker.name held new c.in-Ok-put_object.id c.if-ne.ensures c.in-Ok-put_object.ensures.ok in
    let halts = halts_at told.1 new item (inr (c.requires.0, c.requires.1, c.requires.2, put.1)) in (
      same_still taker.name taker.held taker.over taker.laws before c.args.filling.now _ told.0 refl refl c.put_object.ensures.only,
      subst (λ l. HaltsAt taker.name (taker.held before.into.now) new before.ids.now.items l items item) (sym c.in-Err-push.ensures.items) halts,
    )

pub returns-in-Err : goal.returns-in-Err
returns-in-Err g c = λ before items sent told.
    let taker = g.I.Importer in
    let h = c.in-Ok.header in
    let behind = c.in-Ok.behind.now in
    let held = taker.held c.args.filling.now.into.now in
    let new = taker.held c.put_object.new.self in
    let item = c.args.item.now in
    let read = c.in-Ok.ensures in
    let cause = c.in-Err.cause in
    let same = same_still taker.name taker.held taker.over taker.laws before c.args.filling.now _ told.0 refl refl c.put_object.ensures.only in
    let puts =
    puts_is item c.requires h behind read.0 read.1 (Err cause) taker.name held new
    (puts_of cause taker.name h.object_type (take h.size behind) held new c.in-Err.ensures.err c.in-Err.ensures.refuses) in
    rw c.refusal.ensures (tells_refused taker.name taker.held taker.over before _ same held items told.1 cause sent item c.args._text.now.items c.requires puts)
