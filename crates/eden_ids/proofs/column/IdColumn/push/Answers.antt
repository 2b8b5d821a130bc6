use Rattle.std.proofs.Common.{rules, ◌≡◌, ◌∷◌, ◌++◌, [], ap, ◌∙◌, List}
use Rattle.eden_ids.specs.declared.id.Id.{Id}
use Rattle.eden_ids.specs.Columns.{IsOfItsWords, word}
use Rattle.eden_ids.proofs.ColumnLemmas.{is_of_its_words, pushed}
use Rattle.eden_ids.proofs.column.IdColumn.push.Goals as goal

pub invariant_of-self-2 : goal.invariant_of-self-2
invariant_of-self-2 c =
    let whole : IsOfItsWords c.args.id = is_of_its_words c.args.id (search rules) (search rules) in
    let f : c.put.new.words.items ≡ c.self.inside.first.items ++ word 0 c.args.id ∷ [] = cc in
    let g : c.put-2.new.words.items ≡ c.self.inside.second.items ++ word 1 c.args.id ∷ [] = cc in
    let h : c.put-3.new.words.items ≡ c.self.inside.third.items ++ word 2 c.args.id ∷ [] = cc in
    let i : c.put-4.new.words.items ≡ c.self.inside.fourth.items ++ word 3 c.args.id ∷ [] = cc in
    let j : c.put-5.new.words.items ≡ c.self.inside.fifth.items ++ word 4 c.args.id ∷ [] = cc in
    (pushed _ _ _ _ _ _ _ _ _ _ c.args.id whole c.self.invariant f g h i j).0

pub returns-clause-ok : goal.returns-clause-ok
returns-clause-ok c =
    let whole : IsOfItsWords c.args.id = is_of_its_words c.args.id (search rules) (search rules) in
    let f : c.put.new.words.items ≡ c.self.inside.first.items ++ word 0 c.args.id ∷ [] = cc in
    let g : c.put-2.new.words.items ≡ c.self.inside.second.items ++ word 1 c.args.id ∷ [] = cc in
    let h : c.put-3.new.words.items ≡ c.self.inside.third.items ++ word 2 c.args.id ∷ [] = cc in
    let i : c.put-4.new.words.items ≡ c.self.inside.fourth.items ++ word 3 c.args.id ∷ [] = cc in
    let j : c.put-5.new.words.items ≡ c.self.inside.fifth.items ++ word 4 c.args.id ∷ [] = cc in
    (pushed _ _ _ _ _ _ _ _ _ _ c.args.id whole c.self.invariant f g h i j).1 ∙ ap (λ (ids : List Id). ids ++ c.args.id ∷ []) c.self.view_is
