-- The map of the bindings, and the order in which they were made.
use Rattle.std.proofs.Common.{◌≡◌, ℕ, List, [], ◌∷◌, ◌++◌, reverse, cond, Some, sym, ap, ◌∙◌}
use Rattle.std.proofs.lemmas.List.{reverse-append, reverse-reverse}
use Rattle.std.specs.Ordering.{nat_cmp}
use Rattle.std.specs.Cmp.Lexicographic.{slice_cmp, nat_list_cmp_total, texts_ties}
use Rattle.std.specs.FinMap as fin
use Rattle.eden_script.specs.declared.label.Binding.{Binding}
use Rattle.eden_ids.specs.Sameness.{same_bytes}
use Rattle.eden_script.specs.Labels.{newest}
use Rattle.eden_edend.specs.internal.BoundMaps.{BoundMap, bound_map}

-- one more binding
pub bound_map_more : (made : List Binding) (map : BoundMap) (binding : Binding) → map ≡ bound_map (reverse made)
    → fin.insert map binding.label binding.id ≡ bound_map (reverse (made ++ binding ∷ []))
bound_map_more made map binding e =
    ap (λ m. fin.insert m binding.label binding.id) e ∙ sym (ap bound_map (reverse-append made (binding ∷ [])))

-- the map says what each label is bound to
pub get_bound_map : (bindings : List Binding) (label : List ℕ) → fin.get (bound_map bindings) label ≡ newest bindings label
get_bound_map [] label = fin.get-empty (slice_cmp nat_cmp) label
get_bound_map (binding ∷ earlier) label =
    fin.get-insert nat_list_cmp_total (bound_map earlier) binding.label binding.id label
    ∙ ap (λ b. cond b (Some binding.id) (fin.get (bound_map earlier) label)) (sym (texts_ties label binding.label))
    ∙ ap (λ o. cond (same_bytes label binding.label) (Some binding.id) o) (get_bound_map earlier label)

pub turned_twice : (made : List Binding) → reverse (reverse made) ≡ made
turned_twice made = reverse-reverse made

pub reverse_one : (made : List Binding) (binding : Binding) → reverse (made ++ binding ∷ []) ≡ binding ∷ reverse made
reverse_one made binding = reverse-append made (binding ∷ [])
