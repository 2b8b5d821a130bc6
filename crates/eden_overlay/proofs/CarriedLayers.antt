-- An overlay whose entries below one directory were carried to below another, over files that were carried alike.
use Rattle.std.proofs.Common.{◌≡◌, ℕ, Bool, true, false, cond, ◌&&◌, List, [], ◌∷◌, Option, Some, None, refl, sym, ap, subst, ◌∙◌}
use Rattle.std.proofs.lemmas.Bool.{or_parts}
use Rattle.std.specs.Prelude.{IsSome, if◌then◌else◌}
use Rattle.std.specs.Bool.{one_answer}
use Rattle.std.specs.List.{list_any}
use Rattle.std.specs.Option.{option_or}
use Rattle.std.specs.Ordering.{nat_cmp}
use Rattle.std.specs.Cmp.Lexicographic.{slice_cmp, nat_list_cmp_total}
use Rattle.std.specs.FinMap as fin
use Rattle.std.specs.FinMap.{find}
use Rattle.eden_ids.specs.declared.content.Content.{Content}
use Rattle.eden_ids.specs.Paths.{lies_below}
use Rattle.eden_ids.specs.FileMaps.{FileMap, file_at, same_path}
use Rattle.eden_ids.proofs.ByteOrder.{first, second}
use Rattle.eden_ids.proofs.FileMapLemmas.{same_file_map, same_path-is, same_path-refl, same_path-turned}
use Rattle.eden_overlay.specs.Carried.{breaks, carried, carried_files}
use Rattle.eden_overlay.specs.Layers.{Entry, IsCarried, Layer, by_bytes, or_below, over}
use Rattle.eden_overlay.specs.internal.Carrying.{put_carried}
use Rattle.eden_overlay.proofs.CarriedLemmas.{carried-back, carried-below, file_at-carried}
use Rattle.eden_overlay.proofs.Flattened.{Above, Rising}
use Rattle.eden_overlay.proofs.Overs.{file_at-over}
use Rattle.eden_overlay.proofs.Placing.{none_above}

-- what is seen is what was seen before, carried
pub over_carried : (base : FileMap) (layer next : Layer) (old new : List ℕ) → IsCarried layer old new next
    → over (carried_files base old new) next ≡ carried_files (over base layer) old new
over_carried base layer next old new is =
    same_file_map _ _ (λ p.
    file_at-over (carried_files base old new) next p
    ∙ (λ i. or_below (is p i) (file_at-carried base old new p i))
    ∙ by (lies_below p new) (lies_below p old) (fin.get layer (carried new old p)) (fin.get layer p) (file_at base (carried new old p)) (file_at base p)
    ∙ (λ i. if lies_below p new then sym (file_at-over base layer (carried new old p)) i else if lies_below p old then None else sym (file_at-over base layer p) i)
    ∙ sym (file_at-carried (over base layer) old new p))
  where
    by : (into outof : Bool) (there here : Option (Option Content)) (f g : Option Content)
        → or_below (if into then there else if outof then None else here) (if into then f else if outof then None else g)
        ≡ (if into then or_below there f else if outof then None else or_below here g)
    by true outof there here f g = refl
    by false true there here f g = refl
    by false false there here f g = refl

-- ---- entries that are carried one after another

abbrev pub each_put : List ℕ → List ℕ → Layer → List Entry → Layer
each_put old new layer [] = layer
each_put old new layer (e ∷ es) = each_put old new (put_carried old new layer e) es

within_apart : (top p q : List ℕ) → lies_below p top ≡ true → lies_below q top ≡ false → same_path p q ≡ false
within_apart top p q into out = by (same_path p q) refl
  where
    by : (b : Bool) → same_path p q ≡ b → b ≡ false
    by false e = refl
    by true e = let bad : true ≡ false = sym into ∙ ap (λ r. lies_below r top) (same_path-is p q e) ∙ out in cc

without_apart : (top p q : List ℕ) → lies_below p top ≡ false → lies_below q top ≡ true → same_path p q ≡ false
without_apart top p q out into = same_path-turned p q ∙ within_apart top q p into out

module _ (old new p : List ℕ) where
  -- to this path goes what is said of another one, and nothing else
  abbrev ComesFrom : List ℕ → Type 0
  ComesFrom k = (layer : Layer) (e : Entry) → fin.get (put_carried old new layer e) p ≡ cond (same_path k e.0) (Some e.1) (fin.get layer p)

  all_put : (k : List ℕ) → ComesFrom k → (es : List Entry) → Rising es → (layer : Layer)
      → fin.get (each_put old new layer es) p ≡ option_or (find by_bytes k es) (fin.get layer p)
  all_put k comes [] h layer = refl
  all_put k comes (e ∷ es) h layer =
      all_put k comes es (second _ _ h) (put_carried old new layer e)
      ∙ ap (option_or (find by_bytes k es)) (comes layer e)
      ∙ by (same_path k e.0) refl
    where
      by : (b : Bool) → same_path k e.0 ≡ b
          → option_or (find by_bytes k es) (cond b (Some e.1) (fin.get layer p)) ≡ option_or (cond b (Some e.1) (find by_bytes k es)) (fin.get layer p)
      by false s = refl
      by true s = ap (λ o. option_or o (Some e.1)) (none_above k es (subst (λ q. Above q es) (sym (same_path-is k e.0 s)) (first _ _ h)))

  -- to this path goes nothing
  none_put : ((layer : Layer) (e : Entry) → fin.get (put_carried old new layer e) p ≡ fin.get layer p) → (es : List Entry) (layer : Layer)
      → fin.get (each_put old new layer es) p ≡ fin.get layer p
  none_put never [] layer = refl
  none_put never (e ∷ es) layer = none_put never es (put_carried old new layer e) ∙ never layer e

  put_at : (layer : Layer) (k : List ℕ) (v : Option Content) (b : Bool) → same_path p k ≡ b → fin.get (fin.insert layer k v) p ≡ cond b (Some v) (fin.get layer p)
  put_at layer k v b is = fin.get-insert nat_list_cmp_total layer k v p ∙ ap (λ b. cond b (Some v) (fin.get layer p)) is

  abbrev put_if : Bool → Bool → Layer → Entry → Layer
  put_if from over layer e = if from then fin.insert layer (carried old new e.0) e.1 else if over then layer else fin.insert layer e.0 e.1

  arrived : lies_below p new ≡ true → ComesFrom (carried new old p)
  arrived into layer e = by (lies_below e.0 old) (lies_below e.0 new) refl refl
    where
      origin : List ℕ
      origin = carried new old p

      same_place : lies_below e.0 old ≡ true → same_path p (carried old new e.0) ≡ same_path (carried new old p) e.0
      same_place below =
          one_answer {P = p ≡ carried old new e.0} _ _
          (same_path-is p (carried old new e.0), (λ is. ap (λ q. same_path q (carried old new e.0)) is ∙ same_path-refl (carried old new e.0))) (
            (λ same. sym (carried-back new old p into) ∙ ap (carried old new) (same_path-is (carried new old p) e.0 same)),
            (λ is. ap (λ q. same_path q e.0) (ap (carried new old) is ∙ carried-back old new e.0 below) ∙ same_path-refl e.0),
          )

      other : lies_below e.0 old ≡ false → fin.get layer p ≡ cond (same_path (carried new old p) e.0) (Some e.1) (fin.get layer p)
      other out = sym (ap (λ b. cond b (Some e.1) (fin.get layer p)) (within_apart old (carried new old p) e.0 (carried-below new old p into) out))

      by : (from over : Bool) → lies_below e.0 old ≡ from → lies_below e.0 new ≡ over
          → fin.get (put_if from over layer e) p ≡ cond (same_path (carried new old p) e.0) (Some e.1) (fin.get layer p)
      by true over below _ = put_at layer (carried old new e.0) e.1 _ (same_place below)
      by false true out _ = other out
      by false false out apart = put_at layer e.0 e.1 false (within_apart new p e.0 into apart) ∙ other out

  left : lies_below p new ≡ false → lies_below p old ≡ true → (layer : Layer) (e : Entry) → fin.get (put_carried old new layer e) p ≡ fin.get layer p
  left out from layer e = by (lies_below e.0 old) (lies_below e.0 new) refl refl
    where
      by : (from over : Bool) → lies_below e.0 old ≡ from → lies_below e.0 new ≡ over → fin.get (put_if from over layer e) p ≡ fin.get layer p
      by true over below _ = put_at layer (carried old new e.0) e.1 false (without_apart new p (carried old new e.0) out (carried-below old new e.0 below))
      by false true _ _ = refl
      by false false apart _ = put_at layer e.0 e.1 false (within_apart old p e.0 from apart)

  stayed : lies_below p new ≡ false → lies_below p old ≡ false → ComesFrom p
  stayed out apart layer e = by (lies_below e.0 old) (lies_below e.0 new) refl refl
    where
      other : same_path p e.0 ≡ false → fin.get layer p ≡ cond (same_path p e.0) (Some e.1) (fin.get layer p)
      other is = sym (ap (λ b. cond b (Some e.1) (fin.get layer p)) is)

      by : (from over : Bool) → lies_below e.0 old ≡ from → lies_below e.0 new ≡ over
          → fin.get (put_if from over layer e) p ≡ cond (same_path p e.0) (Some e.1) (fin.get layer p)
      by true over below _ =
          put_at layer (carried old new e.0) e.1 false (without_apart new p (carried old new e.0) out (carried-below old new e.0 below))
          ∙ other (without_apart old p e.0 apart below)
      by false true _ into = other (without_apart new p e.0 out into)
      by false false _ _ = put_at layer e.0 e.1 _ refl

pub is_carried : (layer next : Layer) (old new : List ℕ) → each_put old new fin.empty (fin.entries layer) ≡ next → IsCarried layer old new next
is_carried layer next old new is p = ap (λ m. fin.get m p) (sym is) ∙ by (lies_below p new) (lies_below p old) refl refl
  where
    empty : Layer
    empty = fin.empty

    nothing : fin.get empty p ≡ None
    nothing = fin.get-empty (slice_cmp nat_cmp) p

    or_nothing : (o : Option (Option Content)) → option_or o (fin.get empty p) ≡ o
    or_nothing None = nothing
    or_nothing (Some v) = refl

    from : (k : List ℕ) → ComesFrom old new p k → fin.get (each_put old new fin.empty (fin.entries layer)) p ≡ fin.get layer k
    from k comes = all_put old new p k comes (fin.entries layer) (fin.entries_sorted layer) empty ∙ or_nothing (find by_bytes k (fin.entries layer)) ∙ sym (fin.get-entries layer k)

    by : (into out : Bool) → lies_below p new ≡ into → lies_below p old ≡ out
        → fin.get (each_put old new fin.empty (fin.entries layer)) p ≡ (if into then fin.get layer (carried new old p) else if out then None else fin.get layer p)
    by true out below _ = from (carried new old p) (arrived old new p below)
    by false true apart below = none_put old new p (left old new p apart below) (fin.entries layer) empty ∙ nothing
    by false false apart outside = from p (stayed old new p apart outside)

-- a test that no entry passes
not_passed : (test : List ℕ → Bool) (layer : Layer) → list_any (λ e. test e.0) (fin.entries layer) ≡ false → (p : List ℕ) → IsSome (fin.get layer p) → test p ≡ false
not_passed test layer none p there = by (fin.entries layer) none (subst IsSome (fin.get-entries layer p) there)
  where
    by : (es : List Entry) → list_any (λ e. test e.0) es ≡ false → IsSome (find by_bytes p es) → test p ≡ false
    by [] none there = absurd (let bad : false ≡ true = there in cc)
    by (e ∷ es) none there =
        let parts = or_parts (test e.0) _ none in
        elim (same_path p e.0) as (λ b. same_path p e.0 ≡ b → IsSome (cond b (Some e.1) (find by_bytes p es)) → test p ≡ false) [
          | true ↦ λ same _. ap test (same_path-is p e.0 same) ∙ parts.0
          | false ↦ λ _ there. by es parts.1 there
        ] refl there

pub unbroken : (layer : Layer) (old new : List ℕ) → list_any (λ e. lies_below e.0 old && breaks old new e.0) (fin.entries layer) ≡ false
    → (p : List ℕ) → IsSome (fin.get layer p) → lies_below p old ≡ true → breaks old new p ≡ false
unbroken layer old new none p there below =
    sym (ap (λ b. b && breaks old new p) below) ∙ not_passed (λ q. lies_below q old && breaks old new q) layer none p there

-- nothing is said below a path
pub unsaid : (layer : Layer) (top : List ℕ) → list_any (λ e. lies_below e.0 top) (fin.entries layer) ≡ false → (p : List ℕ) → lies_below p top ≡ true → fin.get layer p ≡ None
unsaid layer top none p below = by (fin.get layer p) refl
  where
    by : (o : Option (Option Content)) → fin.get layer p ≡ o → o ≡ None
    by None is = refl
    by (Some v) is =
        absurd (let bad : true ≡ false = sym below ∙ not_passed (λ q. lies_below q top) layer none p (subst IsSome (sym is) refl) in cc)

pub unmoved : (layer : Layer) (old new : List ℕ) → list_any (λ e. lies_below e.0 old) (fin.entries layer) ≡ false
    → list_any (λ e. lies_below e.0 new) (fin.entries layer) ≡ false → IsCarried layer old new layer
unmoved layer old new none nowhere p = by (lies_below p new) (lies_below p old) refl refl
  where
    by : (into out : Bool) → lies_below p new ≡ into → lies_below p old ≡ out
        → fin.get layer p ≡ (if into then fin.get layer (carried new old p) else if out then None else fin.get layer p)
    by true out below _ = unsaid layer new nowhere p below ∙ sym (unsaid layer old none (carried new old p) (carried-below new old p below))
    by false true _ below = unsaid layer old none p below
    by false false _ _ = refl
