use Rattle.std.proofs.Common.{◌∙◌, ◌++◌, ap, sym, refl, subst, take, drop, reverse}
use Rattle.std.proofs.lemmas.List.{take_rest}
use Rattle.eden_segments.specs.Tables.{AreDistinct}
use Rattle.eden_segments.specs.internal.Segments.{frozen_rows, stored}
use Rattle.eden_segments.proofs.Distinct.{distinct_later}
use Rattle.eden_segments.proofs.Stored.{split_at}
use Rattle.eden_segments.proofs.freezing.merge_small.Goals as goal

pub merged-requires : goal.merged-requires
merged-requires g c =
    let first = c.first_merged-first.result in
    let frozen = c.args.frozen.now.items in
    rw (c.as_slice-then-first-len.ensures.value, take_rest)
    (distinct_later (frozen_rows (take first frozen)) (stored (drop first frozen) c.args.newest.now)
    (subst (λ rows. AreDistinct (reverse rows)) (sym (split_at first frozen c.args.newest.now)) c.requires))

pub returns-in_ok-newest : goal.returns-in_ok-newest
returns-in_ok-newest g c =
    let first = c.first_merged-first.result in
    let frozen = c.args.frozen.now.items in
    ap (λ segments. stored segments c.in_ok-newest.field-0) c.truncate.ensures.items
    ∙ ap (λ rows. frozen_rows (take first frozen) ++ rows)
    (c.in_ok-newest.ensures ∙ rw (c.as_slice-then-first-len.ensures.value, take_rest) refl)
    ∙ split_at first frozen c.args.newest.now
