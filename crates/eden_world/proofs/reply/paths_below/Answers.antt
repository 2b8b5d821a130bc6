use Rattle.std.proofs.Common.{rules, of_calls, ℕ, List, ◌++◌, ap, ◌∙◌}
use Rattle.std.specs.Prelude.{filter}
use Rattle.std.proofs.lemmas.Fn.{always_returns_same}
use Rattle.eden_ids.specs.Paths.{lies_below}
use Rattle.eden_world.proofs.reply.paths_below.Goals as goal

pub returns : goal.returns
returns c =
    let inside = λ (path : List ℕ). lies_below path c.args.prefix.now in
    c.from_vec.ensures
    ∙ c.in_ok-push_where.ensures.ok inside (always_returns_same _ _ _ (λ a r f k. search (rules, of_calls)))
    ∙ ap (λ ps. ps ++ filter inside c.args.paths.now) c.new-list.ensures.items
