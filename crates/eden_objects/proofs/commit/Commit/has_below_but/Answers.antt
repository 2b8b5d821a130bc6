use Rattle.std.proofs.Common.{rules, ◌≡◌, ◌&&◌, not, Some, None, ap, sym, ◌∙◌}
use Rattle.std.specs.List.{list_any}
use Rattle.eden_ids.specs.Paths.{lies_below}
use Rattle.eden_objects.specs.Files.{rows_at}
use Rattle.eden_objects.specs.Passing.{told}
use Rattle.eden_objects.proofs.Searched.{any_there}
use Rattle.eden_objects.proofs.commit.Commit.has_below_but.Goals as goal

pub returns-in-None : goal.returns-in-None
returns-in-None g c =
    let is : c.self.inside.tree ≡ None = search rules in
    ap (λ at. list_any (λ row. lies_below row.0 c.args.top.now && not (g.S.Passes.passes c.args.passed.now (told c.args.top.now c.args.seen.now row.0))) (rows_at c.self.inside.store.now at)) (sym is)
    ∙ any_there (λ p. lies_below p c.args.top.now && not (g.S.Passes.passes c.args.passed.now (told c.args.top.now c.args.seen.now p))) c.self.inside.store.now c.self.inside.tree c.args.self.now
    c.closed_law.ensures.closed c.self.invariant c.self.view_is

pub returns-in-Some : goal.returns-in-Some
returns-in-Some g c =
    let is : c.self.inside.tree ≡ Some c.in-Some.tree = search rules in
    c.has_below_but.ensures
    ∙ ap (λ at. list_any (λ row. lies_below row.0 c.args.top.now && not (g.S.Passes.passes c.args.passed.now (told c.args.top.now c.args.seen.now row.0))) (rows_at c.self.inside.store.now at)) (sym is)
    ∙ any_there (λ p. lies_below p c.args.top.now && not (g.S.Passes.passes c.args.passed.now (told c.args.top.now c.args.seen.now p))) c.self.inside.store.now c.self.inside.tree c.args.self.now
    c.closed_law.ensures.closed c.self.invariant c.self.view_is
