use Rattle.std.proofs.Common.{rules, ◌≡◌, ◌∙◌, ◌∷◌, ◌++◌, [], List, length, reverse, sym, subst}
use Rattle.std.specs.FinMap as fin
use Rattle.eden_script.specs.declared.label.Binding.{Binding}
use Rattle.eden_edend.specs.internal.BoundMaps.{bound_map}
use Rattle.eden_edend.specs.internal.Firsts.{AreFirsts, IsNoted}
use Rattle.eden_edend.proofs.FirstLemmas.{firsts_more}
use Rattle.eden_edend.proofs.LabelLemmas.{bound_map_more}
use Rattle.eden_edend.proofs.labels.Labels.bind.Goals as goal

pub invariant_of-self-2 : goal.invariant_of-self-2
invariant_of-self-2 c =
    let binding : Binding = record { label = c.args.label; id = c.args.id } in
    let made : List Binding = c.self.inside.made.items in
    let pushed : c.push_reserved.new.self.items ≡ c.self.inside.made.items ++ binding ∷ [] = search rules in
    let put : c.insert.new.self ≡ fin.insert c.self.inside.bound c.args.label c.args.id = search rules in
    let noted : IsNoted c.self.inside.firsts.places.entries c.note.new.self.places.entries c.args.id (length c.self.inside.made.items) = search rules in
    subst (λ items. (c.insert.new.self ≡ bound_map (reverse items)) × AreFirsts c.note.new.self.places.entries items) (sym pushed) (
      put ∙ bound_map_more made c.self.inside.bound binding c.self.invariant.0,
      firsts_more c.self.inside.firsts.places.entries c.note.new.self.places.entries made binding c.self.invariant.1 noted,
    )
