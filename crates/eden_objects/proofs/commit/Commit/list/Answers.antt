use Rattle.std.proofs.Common.{rules, ◌≡◌, ◌∙◌, [], Some, None, ap, sym}
use Rattle.std.specs.Prelude.{filter}
use Rattle.eden_objects.specs.Commits.{tree_rows}
use Rattle.eden_objects.specs.Files.{rows_at}
use Rattle.eden_objects.specs.Passing.{is_shown}
use Rattle.eden_objects.proofs.Gathering.{nothing_before}
use Rattle.eden_objects.proofs.Searched.{shown_there, listed_if}
use Rattle.eden_objects.proofs.commit.Commit.list.Goals as goal

pub returns-in-None : goal.returns-in-None
returns-in-None g c =
    let is : c.self.inside.tree ≡ None = search rules in
    let shows = is_shown (g.S.Passes.passes c.args.passed.now) c.args.wanted.now in
    c.new.ensures.items
    ∙ shown_there shows c.self.inside.store.now c.self.inside.tree c.args.self.now [] c.closed_law.ensures.closed c.self.invariant c.self.view_is
    (ap (λ at. filter (λ row. shows row.0) (rows_at c.self.inside.store.now at)) (sym is))

pub returns-in_ok-rows-in-Some : goal.returns-in_ok-rows-in-Some
returns-in_ok-rows-in-Some g c =
    let is : c.self.inside.tree ≡ Some c.in-Some.tree = search rules in
    let shows = is_shown (g.S.Passes.passes c.args.passed.now) c.args.wanted.now in
    let rows = c.in_ok-rows-in-Some.rows.items in
    listed_if c.only_paths.result c.only_paths.ensures
    (λ list its. its ∙ shown_there shows c.self.inside.store.now c.self.inside.tree c.args.self.now rows c.closed_law.ensures.closed c.self.invariant c.self.view_is
    (sym (nothing_before shows (tree_rows c.self.inside.store.now c.in-Some.tree) rows c.in_ok-rows-in-Some.ensures)
    ∙ ap (λ at. filter (λ row. shows row.0) (rows_at c.self.inside.store.now at)) (sym is)))
