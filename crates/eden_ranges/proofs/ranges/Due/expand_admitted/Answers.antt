use Rattle.std.proofs.Common.{◌++◌, ◌∷◌, [], List, map, reverse, ap, ◌∙◌}
use Rattle.eden_globs.specs.Filters.{Patterns}
use Rattle.eden_objects.specs.Commits.{commit_map}
use Rattle.eden_journal.specs.declared.delta.Delta.{Delta}
use Rattle.eden_journal.specs.Runs.{after}
use Rattle.eden_history.specs.Marks.{mark_said}
use Rattle.eden_history.specs.Said.{by_root, ends}
use Rattle.eden_ranges.specs.declared.ranges.Range.{Range}
use Rattle.eden_ranges.specs.Expanded.{differing}
use Rattle.eden_ranges.specs.internal.Gathering.{Gathering}
use Rattle.eden_ranges.specs.internal.Wanted.{admitted_said, only}
use Rattle.eden_ranges.proofs.Lent.{deltas_marked}
use Rattle.eden_ranges.proofs.ranges.Due.expand_admitted.Goals as goal

pub returns-clause-marked : goal.returns-clause-marked
returns-clause-marked g c =
    let wanted : Patterns = c.args.wanted.now in
    let deltas : List Delta = map (λ run. run.what) (after c.self.inside.from c.self.inside.recent) in
    let all = c.in_ok-touches.ensures in
    let range = c.self.view_is in
    let touches = c.in_ok-append.ensures ∙ (λ i. (c.reverse.ensures ∙ ap (λ (g : Gathering). reverse g.touches) all) i ++ (all i).unclean) in
    let roots = ap (λ (g : Gathering). reverse g.lefts ++ c.self.inside.to.root ∷ []) all ∙ ap (λ (r : Range). r.roots) range in
    c.in_ok-marked.ensures
    ∙ ap (λ list. map mark_said (ends (list ++ map by_root c.in_ok-differing.differing.items))) (c.retain_admitted.ensures ∙ ap (admitted_said wanted) touches)
    ∙ deltas_marked wanted c.args.store.now c.args.self.now deltas c.in_ok-differing.differing.items (ap (λ (r : Range). r.changes) range) (ap (λ (r : Range). r.unclean) range)
    (c.in_ok-differing.ensures.paths ∙ ap (λ ids. only wanted (differing (commit_map c.args.store.now) ids)) roots)
