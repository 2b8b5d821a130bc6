use Rattle.std.proofs.Common.{◌∙◌, ap, sym}
use Rattle.std.specs.Option.{option_or}
use Rattle.std.specs.Map.{lookup}
use Rattle.eden_ids.specs.Sameness.{same_id}
use Rattle.eden_segments.specs.internal.Segments.{frozen_rows, stored}
use Rattle.eden_segments.proofs.Distinct.{lookup-append, turned_back}
use Rattle.eden_segments.proofs.table.Table.get.Goals as goal

pub returns-in-Some : goal.returns-in-Some
returns-in-Some g c =
    let test = same_id c.args.id in
    let rows = frozen_rows c.self.inside.frozen.items in
    let newest = c.self.inside.newest in
    ap (λ found. option_or found (lookup test newest)) (c.in-Some.ensures ∙ ap (λ segments. lookup test (frozen_rows segments)) c.as_slice.ensures.value)
    ∙ sym (lookup-append test rows newest)
    ∙ sym (turned_back (stored c.self.inside.frozen.items newest) c.args.id c.self.invariant)
    ∙ ap (lookup test) c.self.view_is

pub returns-in-None : goal.returns-in-None
returns-in-None g c =
    let test = same_id c.args.id in
    let rows = frozen_rows c.self.inside.frozen.items in
    let newest = c.self.inside.newest in
    c.get.ensures
    ∙ ap (λ found. option_or found (lookup test newest)) (c.in-None.ensures ∙ ap (λ segments. lookup test (frozen_rows segments)) c.as_slice.ensures.value)
    ∙ sym (lookup-append test rows newest)
    ∙ sym (turned_back (stored c.self.inside.frozen.items newest) c.args.id c.self.invariant)
    ∙ ap (lookup test) c.self.view_is
