use Rattle.std.proofs.Common.{◌≡◌, ◌∙◌, ◌++◌, ◌∷◌, ap, sym, subst, reverse}
use Rattle.std.specs.Map.Iter.{deref_pair}
use Rattle.std.proofs.lemmas.Map.Iter.{rest_more}
use Rattle.eden_segments.specs.Tables.{AreDistinct}
use Rattle.eden_segments.proofs.Distinct.{absent_earlier}
use Rattle.eden_segments.proofs.segment.Segment.take_rows.Goals as goal

pub add-requires : goal.add-requires
add-requires g c =
    let whole : c.loop-id.self ++ (c.in-Some.id.now, c.in-Some.value.now) ∷ c.next.new.self ≡ c.args.self.now ++ c.args.other.now =
    ap (λ rest. c.loop-id.self ++ rest) (sym (rest_more deref_pair c.loop-id.id-iterator c.next.new.self c.next.result (c.in-Some.id, c.in-Some.value) c.in-Some.is c.next.ensures.steps)) ∙ c.loop-id.invariant in
    absent_earlier c.loop-id.self c.next.new.self (c.in-Some.id.now, c.in-Some.value.now) (subst (λ rows. AreDistinct (reverse rows)) (sym whole) c.requires)
