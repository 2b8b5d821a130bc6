use Rattle.std.proofs.Common.{rules, of_calls, ◌++◌, ap, ◌∙◌}
use Rattle.std.specs.Prelude.{filter}
use Rattle.std.proofs.lemmas.Fn.{always_returns_same}
use Rattle.eden_history.specs.Checkouts.{is_conflict}
use Rattle.eden_world.proofs.SideLaws.{conflicts_listed}
use Rattle.eden_world.proofs.sides.SideMaps.conflicts.Goals as goal

pub returns : goal.returns
returns c =
    let work = c.args.self.now.work in
    let root = c.args.self.now.root in
    let target = c.args.self.now.target in
    c.in_ok-push_where.ensures.ok (is_conflict work root target) (always_returns_same _ _ _ (λ a r f k. search (rules, of_calls)))
    ∙ ap (λ ps. ps ++ filter (is_conflict work root target) c.deref.result.now) c.new-list.ensures.items
    ∙ conflicts_listed work root target c.deref.result.now (c.deref.ensures.value ∙ c.in_ok-all.ensures)
