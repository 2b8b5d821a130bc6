use Rattle.std.proofs.Common.{◌++◌, map, ap, ◌∙◌}
use Rattle.eden_globs.specs.Filters.{Patterns}
use Rattle.eden_history.specs.Marks.{mark_said}
use Rattle.eden_history.specs.Said.{by_root, by_touch, ends}
use Rattle.eden_ranges.specs.internal.Wanted.{admitted_said}
use Rattle.eden_ranges.proofs.Only.{mentions_marked}
use Rattle.eden_ranges.proofs.expanding.expand_admitted.Goals as goal

pub returns-clause-marked : goal.returns-clause-marked
returns-clause-marked g c =
    let wanted : Patterns = c.args.wanted.now in
    let touches = c.in_ok-add_wanted_touches.ensures ∙ (λ i. c.new-mentions.ensures i ++ admitted_said wanted (map by_touch (c.as_slice.ensures i))) in
    let unclean = c.in_ok-add_wanted_roots.ensures ∙ (λ i. touches i ++ admitted_said wanted (map by_root (c.as_slice-2.ensures i))) in
    c.in_ok-into_marked.ensures
    ∙ ap (λ list. map mark_said (ends (list ++ map by_root c.in_ok-differing.differing.items))) unclean
    ∙ mentions_marked wanted c.args.store.now c.args.range.now c.in_ok-differing.differing.items c.in_ok-differing.ensures.paths
