use Rattle.std.proofs.Common.{rules, tests, ◌≡◌, Some, None, reverse, drop, sym, ap, subst, ◌∙◌}
use Rattle.std.specs.Map.{lookup}
use Rattle.std.specs.Prelude.{find}
use Rattle.std.proofs.lemmas.Iterator.{YieldsList-from_slice}
use Rattle.std.proofs.lemmas.Iterator.Search.{find_from_yields_List}
use Rattle.eden_ids.specs.Sameness.{same_id}
use Rattle.eden_script.specs.Labels.{still_binds}
use Rattle.eden_edend.specs.internal.Firsts.{IsFirst}
use Rattle.eden_edend.proofs.LabelLemmas.{turned_twice}
use Rattle.eden_edend.proofs.FirstLemmas.{found_from, none_found, slice_left}
use Rattle.eden_edend.proofs.labels.Labels.first_binding.Goals as goal

pub returns-in-Some : goal.returns-in-Some
returns-in-Some c =
    let at = c.in-Some.at in
    let made = c.self.inside.made.items in
    let noted : lookup (same_id c.args.id) c.self.inside.firsts.places.entries ≡ Some c.in-Some.at = search rules in
    let first = subst (λ o. IsFirst c.args.id o c.self.inside.made.items) noted (c.self.invariant.1 c.args.id) in
    let rest : c.iter.result.rest.now ≡ drop c.in-Some.at c.self.inside.made.items =
    c.iter.ensures.rest ∙ slice_left c.deref.result.now c.in-Some.at ∙ ap (drop c.in-Some.at) c.deref.ensures.value in
    find_from_yields_List (still_binds c.args.self.now c.args.id) _ _ _ c.find.ensures.ran (YieldsList-from_slice (drop at made) rest) (λ x b q k. search (rules, tests))
    ∙ found_from c.args.self.now c.args.id made at first.1
    ∙ ap (find (still_binds c.args.self.now c.args.id)) (sym (turned_twice c.self.inside.made.items) ∙ ap reverse c.self.view_is)

pub returns-in-None : goal.returns-in-None
returns-in-None c =
    let made = c.self.inside.made.items in
    let noted : lookup (same_id c.args.id) c.self.inside.firsts.places.entries ≡ None = search rules in
    let first = subst (λ o. IsFirst c.args.id o c.self.inside.made.items) noted (c.self.invariant.1 c.args.id) in
    sym
    (ap (find (still_binds c.args.self.now c.args.id)) (ap reverse (sym c.self.view_is) ∙ turned_twice c.self.inside.made.items)
    ∙ none_found c.args.self.now c.args.id made first)
