use Rattle.std.proofs.Common.{ap, subst, ◌∙◌, arith}
use Rattle.eden_objects.specs.Commits.{tree_rows}
use Rattle.eden_objects.specs.internal.Below.{IsBelow}
use Rattle.eden_objects.specs.internal.Passed.{any_but}
use Rattle.eden_objects.proofs.Fitting.{limits}
use Rattle.eden_objects.proofs.Searched.{all_allowed, any_left, found_below, none_found}
use Rattle.eden_objects.proofs.store.Store.has_below_but.Goals as goal

pub returns-in_default : goal.returns-in_default
returns-in_default g c =
    none_found (g.S.Passes.passes c.args.passed.now) c.args.self.now c.args.tree c.args.top.now c.args.seen.now
    (subst (IsBelow c.args.self.now c.args.tree c.args.top.now) c.in_default.is c.directory_below.ensures)

pub walk-requires-clause-room : goal.walk-requires-clause-room
walk-requires-clause-room g c =
    let reach = (limits c.args.self.now c.closed_law.ensures.closed c.in-Some.directory c.in-Some.ensures.0).1 in
    omega (arith, reach, c.below-trail.ensures.short)

pub walk-requires-clause-paths : goal.walk-requires-clause-paths
walk-requires-clause-paths g c = all_allowed (g.S.Passes.passes c.args.passed.now) c.below-trail.result (tree_rows c.args.self.now c.in-Some.directory)

pub returns : goal.returns
returns g c =
    let passes = g.S.Passes.passes c.args.passed.now in
    let rows = tree_rows c.args.self.now c.in-Some.directory in
    c.is_err.ensures.value ∙ c.walk.ensures.visit ∙ any_left passes c.below-trail.result rows ∙ ap (λ front. any_but passes front rows) c.below-trail.ensures.trail
    ∙ found_below passes c.args.self.now c.args.tree c.args.top.now c.args.seen.now c.in-Some.directory c.in-Some.ensures
