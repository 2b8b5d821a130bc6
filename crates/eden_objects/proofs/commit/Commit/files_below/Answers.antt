use Rattle.std.proofs.Common.{◌≡◌, rules, ap, ◌∙◌, sym, length, Some, None}
use Rattle.std.specs.Prelude.{filter}
use Rattle.eden_ids.specs.Paths.{lies_below}
use Rattle.eden_objects.specs.Counts.{capped}
use Rattle.eden_objects.specs.Files.{rows_at}
use Rattle.eden_objects.proofs.FilesOf.{count_there}
use Rattle.eden_objects.proofs.commit.Commit.files_below.Goals as goal

pub returns-in-None : goal.returns-in-None
returns-in-None g c =
    let is : c.self.inside.tree ≡ None = search rules in
    ap (λ at. capped (length (filter (λ row. lies_below row.0 c.args.top.now) (rows_at c.self.inside.store.now at)))) (sym is)
    ∙ count_there c.self.inside.store.now c.self.inside.tree c.args.self.now c.args.top.now c.closed_law.ensures.closed c.self.invariant c.self.view_is

pub returns-in-Some : goal.returns-in-Some
returns-in-Some g c =
    let is : c.self.inside.tree ≡ Some c.in-Some.tree = search rules in
    c.files_below.ensures
    ∙ ap (λ at. capped (length (filter (λ row. lies_below row.0 c.args.top.now) (rows_at c.self.inside.store.now at)))) (sym is)
    ∙ count_there c.self.inside.store.now c.self.inside.tree c.args.self.now c.args.top.now c.closed_law.ensures.closed c.self.invariant c.self.view_is
