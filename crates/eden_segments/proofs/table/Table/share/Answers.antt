use Rattle.std.proofs.Common.{◌∙◌, ap, map, sym, subst, reverse}
use Rattle.std.specs.Arc.{arc_value}
use Rattle.eden_segments.specs.Tables.{AreDistinct}
use Rattle.eden_segments.specs.internal.Segments.{stored}
use Rattle.eden_segments.proofs.Stored.{copied}
use Rattle.eden_segments.proofs.table.Table.share.Goals as goal

pub invariant_of-result : goal.invariant_of-result
invariant_of-result g c =
    subst (λ rows. AreDistinct (reverse rows))
    (sym (copied c.in_ok-shared.field-0.items c.freeze.new.frozen.items c.new.result c.freeze.new.newest (stored c.self.inside.frozen.items c.self.inside.newest)
    (c.in_ok-shared.ensures ∙ ap (map arc_value) c.as_slice.ensures.value) c.new.ensures c.in_ok-freeze.ensures.empty c.in_ok-freeze.ensures.rows))
    c.self.invariant

pub returns-clause-copy : goal.returns-clause-copy
returns-clause-copy g c =
    ap reverse
    (copied c.in_ok-shared.field-0.items c.freeze.new.frozen.items c.new.result c.freeze.new.newest (stored c.self.inside.frozen.items c.self.inside.newest)
    (c.in_ok-shared.ensures ∙ ap (map arc_value) c.as_slice.ensures.value) c.new.ensures c.in_ok-freeze.ensures.empty c.in_ok-freeze.ensures.rows)
    ∙ c.self.view_is
