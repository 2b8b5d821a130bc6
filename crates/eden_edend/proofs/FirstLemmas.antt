-- Where the first binding to each id is, and a search that begins there.
use Rattle.std.proofs.Common.{◌≡◌, ℕ, ◌-◌, Bool, true, false, cond, ◌||◌, ◌&&◌, List, [], ◌∷◌, ◌++◌, length, take, drop, Option, Some, None, refl, sym, ap, ◌∙◌, subst, arith, length-append}
use Rattle.std.proofs.lemmas.List.{length-drop, take-append-drop, take-append-le}
use Rattle.std.proofs.lemmas.List.Folds.{list_any-append}
use Rattle.std.proofs.Math.Seq.{take-append_seam, take-length}
use Rattle.std.specs.Map.{lookup}
use Rattle.std.specs.Prelude.{find}
use Rattle.std.proofs.lemmas.Bool.{or_parts}
use Rattle.eden_ids.specs.declared.id.Id.{Id}
use Rattle.eden_ids.specs.Sameness.{same_id}
use Rattle.eden_objects.proofs.Lookup.{turn}
use Rattle.eden_script.specs.declared.label.Binding.{Binding}
use Rattle.eden_script.specs.Labels.{is_id, newest, still_binds}
use Rattle.eden_edend.specs.internal.Firsts.{AreFirsts, IsFirst, IsNoted, binds_any, place_or}

-- an id that had no place gets one, and each other one keeps its own

lookup_push : (test : Id → Bool) (places : List (Id × ℕ)) (id : Id) (at : ℕ)
    → lookup test (places ++ (id, at) ∷ []) ≡ place_or (lookup test places) (test id) at
lookup_push test [] id at = refl
lookup_push test (e ∷ places) id at = by (test e.0) (lookup_push test places id at) where
  by : (t : Bool) → lookup test (places ++ (id, at) ∷ []) ≡ place_or (lookup test places) (test id) at
      → cond t (Some e.1) (lookup test (places ++ (id, at) ∷ [])) ≡ place_or (cond t (Some e.1) (lookup test places)) (test id) at
  by true rest = refl
  by false rest = rest

pub noted_new : (old new : List (Id × ℕ)) (id : Id) (at : ℕ) → new ≡ old ++ (id, at) ∷ [] → IsNoted old new id at
noted_new old new id at is = λ other. ap (lookup (same_id other)) is ∙ lookup_push (same_id other) old id at

-- one more binding

first_more : (id : Id) (o : Option ℕ) (made : List Binding) (b : Binding) → IsFirst id o made
    → IsFirst id (place_or o (same_id id b.id) (length made)) (made ++ b ∷ [])
first_more id (Some at) made b first =
    let long = length-append made (b ∷ []) in
    (omega (arith, long, first.0), ap (binds_any id) (take-append-le at made (b ∷ []) first.0) ∙ first.1)
first_more id None made b none = by (same_id id b.id) refl where
  by : (t : Bool) → same_id id b.id ≡ t → IsFirst id (cond t (Some (length made)) None) (made ++ b ∷ [])
  by true is =
      let long = length-append made (b ∷ []) in
      (omega (arith, long), ap (binds_any id) (take-append_seam made (b ∷ [])) ∙ none)
  by false is =
      let other : same_id b.id id ≡ false = turn b.id.0 id.0 ∙ is in
      list_any-append (λ binding. same_id binding.id id) made (b ∷ [])
      ∙ ap (λ t. t || (same_id b.id id || false)) none
      ∙ ap (λ t. t || false) other

pub firsts_more : (old new : List (Id × ℕ)) (made : List Binding) (b : Binding) → AreFirsts old made → IsNoted old new b.id (length made)
    → AreFirsts new (made ++ b ∷ [])
firsts_more old new made b firsts noted =
    λ id. subst (λ o. IsFirst id o (made ++ b ∷ [])) (sym (noted id)) (first_more id (lookup (same_id id) old) made b (firsts id))

-- a place may be noted before the binding is made

-- no label is still bound to an id by bindings to other ids

none_left : (bindings : List Binding) (id : Id) (b : Binding) → same_id b.id id ≡ false → still_binds bindings id b ≡ false
none_left bindings id b other = ap (λ t. t && is_id (newest bindings b.label) id) other

pub none_found : (bindings : List Binding) (id : Id) (made : List Binding) → binds_any id made ≡ false → find (still_binds bindings id) made ≡ None
none_found bindings id [] none = refl
none_found bindings id (b ∷ made) none =
    let parts = or_parts (same_id b.id id) (binds_any id made) none in
    ap (λ t. cond t (Some b) (find (still_binds bindings id) made)) (none_left bindings id b parts.0) ∙ none_found bindings id made parts.1

found_behind : (bindings : List Binding) (id : Id) (front made : List Binding) → binds_any id front ≡ false
    → find (still_binds bindings id) (front ++ made) ≡ find (still_binds bindings id) made
found_behind bindings id [] made none = refl
found_behind bindings id (b ∷ front) made none =
    let parts = or_parts (same_id b.id id) (binds_any id front) none in
    ap (λ t. cond t (Some b) (find (still_binds bindings id) (front ++ made))) (none_left bindings id b parts.0) ∙ found_behind bindings id front made parts.1

pub found_from : (bindings : List Binding) (id : Id) (made : List Binding) (at : ℕ) → binds_any id (take at made) ≡ false
    → find (still_binds bindings id) (drop at made) ≡ find (still_binds bindings id) made
found_from bindings id made at none =
    sym (found_behind bindings id (take at made) (drop at made) none) ∙ ap (find (still_binds bindings id)) (take-append-drop at made)

-- a slice to the end is all that is left
pub slice_left : (made : List Binding) (at : ℕ) → take (length made - at) (drop at made) ≡ drop at made
slice_left made at = ap (λ n. take n (drop at made)) (sym (length-drop at made)) ∙ take-length (drop at made)
