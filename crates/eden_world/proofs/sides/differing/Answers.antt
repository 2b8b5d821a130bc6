use Rattle.std.proofs.Common.{rules, of_calls, ℕ, List, ◌++◌, not, ap, ◌∙◌}
use Rattle.std.specs.Prelude.{filter}
use Rattle.std.proofs.lemmas.Fn.{always_returns_same}
use Rattle.eden_ids.specs.FileMaps.{file_at, same_file}
use Rattle.eden_world.proofs.SideLaws.{differ_listed}
use Rattle.eden_world.proofs.sides.differing.Goals as goal

pub returns : goal.returns
returns c =
    let differs = λ (p : List ℕ). not (same_file (file_at c.args.one.now p) (file_at c.args.other.now p)) in
    c.in_ok-push_where.ensures.ok differs (always_returns_same _ _ _ (λ a r f k. search (rules, of_calls)))
    ∙ ap (λ ps. ps ++ filter differs c.deref.result.now) c.new-list.ensures.items
    ∙ differ_listed c.args.one.now c.args.other.now c.deref.result.now (c.deref.ensures.value ∙ c.in_ok-all.ensures)
