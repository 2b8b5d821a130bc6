use Rattle.std.proofs.Common.{◌≡◌, ◌++◌, ◌∷◌, [], List, length, map, reverse, refl, sym, ap, subst, ◌∙◌, arith}
use Rattle.std.proofs.lemmas.Bool.{eqb-true}
use Rattle.std.specs.Vec.{vec_len}
use Rattle.eden_ids.specs.declared.id.Id.{Id}
use Rattle.eden_ids.specs.FileMaps.{path_set}
use Rattle.eden_objects.specs.Commits.{commit_map}
use Rattle.eden_history.specs.Said.{by_root}
use Rattle.eden_ranges.specs.Expanded.{are_comparable, differing}
use Rattle.eden_ranges.specs.internal.Mentions.{Ascend}
use Rattle.eden_ranges.specs.internal.Wanted.{only}
use Rattle.eden_ranges.proofs.Only.{only-none}
use Rattle.eden_ranges.proofs.owed.differing_since.Goals as goal

empty : (ids : List Id) → length ids ≡ 0 → ids ≡ []
empty [] none = refl
empty (id ∷ ids) none = absurd (omega arith)

pub returns-then-is_empty-clause-paths : goal.returns-then-is_empty-clause-paths
returns-then-is_empty-clause-paths g c =
    let zero = eqb-true (vec_len c.args.lefts) 0 (sym c.is_empty.ensures ∙ c.if-is_empty.true) in
    let none : c.args.lefts.items ≡ [] = empty c.args.lefts.items (let whole = c.args.lefts.ok.0 in omega arith) in
    ap path_set c.new.ensures.items
    ∙ sym (only-none c.args.wanted.now)
    ∙ ap (λ ids. only c.args.wanted.now (differing (commit_map c.args.store.now) (reverse ids ++ c.args.root ∷ []))) (sym none)

pub returns-then-is_empty-clause-ascend : goal.returns-then-is_empty-clause-ascend
returns-then-is_empty-clause-ascend g c = subst (λ ps. Ascend (map by_root ps)) (sym c.new.ensures.items) tt

pub returns-then-is_empty-clause-compared : goal.returns-then-is_empty-clause-compared
returns-then-is_empty-clause-compared g c =
    let zero = eqb-true (vec_len c.args.lefts) 0 (sym c.is_empty.ensures ∙ c.if-is_empty.true) in
    let none : c.args.lefts.items ≡ [] = empty c.args.lefts.items (let whole = c.args.lefts.ok.0 in omega arith) in
    ap (λ ids. are_comparable (commit_map c.args.store.now) (reverse ids ++ c.args.root ∷ [])) none
