-- The bindings of some first ids to their own labels.
use Rattle.std.proofs.Common.{◌≡◌, ◌∙◌, sym, refl, ap, ℕ, ◌+◌, ◌<◌, Bool, true, false, List, [], ◌∷◌, ◌++◌, length, map, take, drop, reverse, Result, Ok, Err, get_or, is_some, if◌then◌else◌}
use Rattle.std.proofs.lemmas.List.{take_more, take-append-drop, reverse-append, map-append}
use Rattle.std.specs.Prelude.{OnErr}
use Rattle.std.proofs.lemmas.List.Elements.{filter-append}
use Rattle.std.specs.List.{filter}
use Rattle.eden_ids.specs.declared.id.Id.{Id}
use Rattle.eden_objects.specs.Commits.{commit_rows}
use Rattle.eden_objects.specs.Objects.{Held}
use Rattle.eden_script.specs.declared.label.Binding.{Binding}
use Rattle.eden_edend.specs.OwnLabels.{BindsSome, own_binding, own_bindings}

pub none_bound : (held : List Held) (old : List Binding) → own_bindings held [] ++ old ≡ old
none_bound held old = refl

more : (held : List Held) (ids : List Id) (k : ℕ) (id : Id) → k < length ids → id ≡ get_or ids k id
    → own_bindings held (take (k + 1) ids) ≡ own_bindings held (id ∷ []) ++ own_bindings held (take k ids)
more held ids k id lt at =
    let is : Id → Bool = λ id. is_some (commit_rows held id) in
    ap (own_bindings held) (take_more ids k id lt ∙ ap (λ e. take k ids ++ e ∷ []) (sym at))
    ∙ ap (λ ids. reverse (map own_binding ids)) (filter-append is (take k ids) (id ∷ []))
    ∙ ap reverse (map-append own_binding (filter is (take k ids)) (filter is (id ∷ [])))
    ∙ reverse-append (map own_binding (filter is (take k ids))) (map own_binding (filter is (id ∷ [])))

-- a commit's id is bound before the others
pub one_bound : (held : List Held) (ids : List Id) (k : ℕ) (id : Id) (old : List Binding) → k < length ids → id ≡ get_or ids k id → is_some (commit_rows held id) ≡ true
    → own_bindings held (take (k + 1) ids) ++ old ≡ own_binding id ∷ (own_bindings held (take k ids) ++ old)
one_bound held ids k id old lt at found =
    ap (λ bindings. bindings ++ old) (more held ids k id lt at ∙ ap (λ is. reverse (map own_binding (if is then id ∷ [] else [])) ++ own_bindings held (take k ids)) found)

-- any other id is passed over
pub none_more : (held : List Held) (ids : List Id) (k : ℕ) (id : Id) (old : List Binding) → k < length ids → id ≡ get_or ids k id → is_some (commit_rows held id) ≡ false
    → own_bindings held (take (k + 1) ids) ++ old ≡ own_bindings held (take k ids) ++ old
none_more held ids k id old lt at found =
    ap (λ bindings. bindings ++ old) (more held ids k id lt at ∙ ap (λ is. reverse (map own_binding (if is then id ∷ [] else [])) ++ own_bindings held (take k ids)) found)

-- where no more are bound, those before are
pub some_bound : {A E : Type 0} (result : Result A E) (held : List Held) (ids : List Id) (k : ℕ) (old new : List Binding) → new ≡ own_bindings held (take k ids) ++ old
    → OnErr result (BindsSome held ids old new)
some_bound (Ok done) held ids k old new is = tt
some_bound (Err fault) held ids k old new is = (take k ids, drop k ids, sym (take-append-drop k ids), is)
