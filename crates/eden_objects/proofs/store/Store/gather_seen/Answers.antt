use Rattle.std.proofs.Common.{◌≡◌, subst, sym}
use Rattle.std.specs.Prelude.{IfOk}
use Rattle.eden_objects.specs.Passing.{is_shown}
use Rattle.eden_objects.proofs.Searched.{shown_below, told_paths}
use Rattle.eden_objects.proofs.store.Store.gather_seen.Goals as goal

pub gather_below-requires-clause-paths : goal.gather_below-requires-clause-paths
gather_below-requires-clause-paths g c =
    told_paths (g.S.Passes.passes c.args.passed.now) c.args.self.now c.args.tree c.args.top.now c.args.seen.now c.in-Some.dir c.in-Some.ensures c.requires.paths

pub returns-in-Some : goal.returns-in-Some
returns-in-Some g c =
    subst (λ found. IfOk c.gather_below.result (λ rows. rows.items ≡ found))
    (sym (shown_below (is_shown (g.S.Passes.passes c.args.passed.now) c.args.filter.now) c.args.self.now c.args.tree c.args.top.now c.args.seen.now c.in-Some.dir c.in-Some.ensures))
    c.gather_below.ensures
