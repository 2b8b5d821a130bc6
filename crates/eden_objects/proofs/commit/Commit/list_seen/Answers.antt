use Rattle.std.proofs.Common.{rules, ◌≡◌, ◌∙◌, [], Some, None, ap, sym}
use Rattle.std.specs.Prelude.{filter}
use Rattle.eden_ids.specs.Paths.{lies_below}
use Rattle.eden_objects.specs.Files.{rows_at}
use Rattle.eden_objects.specs.Passing.{is_shown}
use Rattle.eden_objects.specs.internal.Passed.{rows_shown}
use Rattle.eden_objects.proofs.Searched.{files_told, listed_if, told_there}
use Rattle.eden_objects.proofs.commit.Commit.list_seen.Goals as goal

pub gather_seen-requires-clause-paths : goal.gather_seen-requires-clause-paths
gather_seen-requires-clause-paths g c =
    let is : c.self.inside.tree ≡ Some c.in-Some.tree = search rules in
    files_told (g.S.Passes.passes c.args.passed.now) c.args.top.now c.args.seen.now c.self.inside.store.now c.self.inside.tree c.in-Some.tree c.args.self.now c.self.view_is is c.requires

pub returns-in-None : goal.returns-in-None
returns-in-None g c =
    let is : c.self.inside.tree ≡ None = search rules in
    let shows = is_shown (g.S.Passes.passes c.args.passed.now) c.args.wanted.now in
    c.new.ensures.items
    ∙ told_there shows c.args.top.now c.args.seen.now c.self.inside.store.now c.self.inside.tree c.args.self.now [] c.closed_law.ensures.closed c.self.invariant c.self.view_is
    (ap (λ at. rows_shown shows c.args.top.now c.args.seen.now (filter (λ row. lies_below row.0 c.args.top.now) (rows_at c.self.inside.store.now at))) (sym is))

pub returns-in_ok-rows-in-Some : goal.returns-in_ok-rows-in-Some
returns-in_ok-rows-in-Some g c =
    let is : c.self.inside.tree ≡ Some c.in-Some.tree = search rules in
    let shows = is_shown (g.S.Passes.passes c.args.passed.now) c.args.wanted.now in
    let rows = c.in_ok-rows-in-Some.rows.items in
    listed_if c.only_paths.result c.only_paths.ensures
    (λ list its. its ∙ told_there shows c.args.top.now c.args.seen.now c.self.inside.store.now c.self.inside.tree c.args.self.now rows c.closed_law.ensures.closed c.self.invariant c.self.view_is
    (c.in_ok-rows-in-Some.ensures
    ∙ ap (λ at. rows_shown shows c.args.top.now c.args.seen.now (filter (λ row. lies_below row.0 c.args.top.now) (rows_at c.self.inside.store.now at))) (sym is)))
