-- One turn of the weaver, and what it weaves in all.
use Rattle.std.proofs.Common.{◌≡◌, ℕ, Bool, true, false, cond, T, ◌&&◌, ◌||◌, List, [], ◌∷◌, ◌++◌, map, take, drop, Option, Some, None, Ordering, is_some, refl, sym, ap, subst, ◌∙◌, arith, append_assoc, append-nil}
use Rattle.std.specs.declared.cmp.Ordering.TheVariants.{Less, Equal, Greater}
use Rattle.std.specs.Borrow.{Bor}
use Rattle.std.specs.List.{list_any, slice_get}
use Rattle.std.specs.Option.{option_copied}
use Rattle.std.specs.Slice.{IsItemAt}
use Rattle.std.specs.FinMap.{find, is_sorted}
use Rattle.std.specs.FinMap.Entries.{below_all, by_order}
use Rattle.eden_globs.specs.Filters.{Patterns, admits}
use Rattle.eden_ids.specs.FileMaps.{same_path}
use Rattle.eden_ids.proofs.ByteOrder.{both, first, second}
use Rattle.eden_ids.proofs.FileMapLemmas.{same_order, same_path-is}
use Rattle.eden_overlay.specs.Layers.{Mark, by_bytes}
use Rattle.eden_overlay.specs.internal.Woven.{order_of, pointed, shown, woven}
use Rattle.eden_overlay.proofs.Placing.{below_later, is_less, none_above, turned}

-- ---- one turn

-- what is woven, by how the first ones compare
abbrev turn : Patterns → Option Ordering → List (List ℕ) → List Mark → List (List ℕ)
turn wanted None ps ms = []
turn wanted (Some Less) ps ms = take 1 ps ++ woven wanted (drop 1 ps) ms
turn wanted (Some Equal) ps ms = woven wanted (drop 1 ps) ms
turn wanted (Some Greater) ps ms = shown wanted (slice_get ms 0) ++ woven wanted ps (drop 1 ms)

by_turn : (wanted : Patterns) (ps : List (List ℕ)) (ms : List Mark) → turn wanted (order_of (slice_get ps 0) (slice_get ms 0)) ps ms ≡ woven wanted ps ms
by_turn wanted [] [] = refl
by_turn wanted [] (m ∷ ms) = refl
by_turn wanted (p ∷ ps) [] = refl
by_turn wanted (p ∷ ps) (m ∷ ms) =
    let later = woven wanted ps (m ∷ ms) in
    elim (by_bytes p m.0) as (λ r. turn wanted (Some r) (p ∷ ps) (m ∷ ms) ≡ by_order r (p ∷ later) later (shown wanted (Some m) ++ woven wanted (p ∷ ps) ms)) [
      | Less ↦ refl
      | Equal ↦ refl
      | Greater ↦ refl
    ]

front_is : (ps : List (List ℕ)) (front : Option (Bor (List ℕ))) → IsItemAt ps 0 front → option_copied front ≡ slice_get ps 0
front_is [] None item = refl
front_is [] (Some p) item = absurd (let bad : true ≡ false = item.0 in cc)
front_is (p ∷ ps) None item = absurd (let bad : false ≡ true = item.2 (omega arith) in cc)
front_is (p ∷ ps) (Some q) item = ap Some item.1

-- The paths so far, and what is woven of what is left.
pub record Weaves (wanted : Patterns) (done ps : List (List ℕ)) (ms : List Mark) (whole : List (List ℕ)) : Type 0 where
  pub is : done ++ woven wanted ps ms ≡ whole

-- The same, where it is known how the first ones compare.
pub record Turn (wanted : Patterns) (done ps : List (List ℕ)) (ms : List Mark) (whole : List (List ℕ)) (order : Option Ordering) : Type 0 where
  pub is : done ++ turn wanted order ps ms ≡ whole

module _ {wanted : Patterns} {done ps : List (List ℕ)} {ms : List Mark} {whole : List (List ℕ)} where
  pub compared : (front : Option (Bor (List ℕ))) (mark : Option (Bor (List ℕ) × Bool)) {order : Option Ordering}
      → IsItemAt ps 0 front → pointed mark ≡ slice_get ms 0 → order ≡ order_of (option_copied front) (pointed mark) → Weaves wanted done ps ms whole → Turn wanted done ps ms whole order
  compared front mark {order} item first is weaves = record {
    is = ap (λ ws. done ++ ws) (ap (λ o. turn wanted o ps ms) (is ∙ λ i. order_of (front_is ps front item i) (first i)) ∙ by_turn wanted ps ms) ∙ weaves.is;
  }

  pub path_moved : {more qs : List (List ℕ)} {order : Ordering} → Turn wanted done ps ms whole (Some order) → order ≡ Less → more ≡ done ++ take 1 ps → qs ≡ drop 1 ps
      → Weaves wanted more qs ms whole
  path_moved {more} {qs} {order} turned o more_is left = record {
    is = (λ i. more_is i ++ woven wanted (left i) ms) ∙ append_assoc done (take 1 ps) (woven wanted (drop 1 ps) ms) ∙ ap (λ r. done ++ turn wanted (Some r) ps ms) (sym o) ∙ turned.is;
  }

  pub path_dropped : {qs : List (List ℕ)} {order : Ordering} → Turn wanted done ps ms whole (Some order) → order ≡ Equal → qs ≡ drop 1 ps → Weaves wanted done qs ms whole
  path_dropped {qs} {order} turned o left = record {
    is = ap (λ qs. done ++ woven wanted qs ms) left ∙ ap (λ r. done ++ turn wanted (Some r) ps ms) (sym o) ∙ turned.is;
  }

  pub mark_added : {more : List (List ℕ)} {ns : List Mark} {order : Ordering} → Turn wanted done ps ms whole (Some order) → order ≡ Greater
      → more ≡ done ++ shown wanted (slice_get ms 0) → ns ≡ drop 1 ms → Weaves wanted more ps ns whole
  mark_added {more} {ns} {order} turned o more_is left = record {
    is = (λ i. more_is i ++ woven wanted ps (left i))
        ∙ append_assoc done (shown wanted (slice_get ms 0)) (woven wanted ps (drop 1 ms)) ∙ ap (λ r. done ++ turn wanted (Some r) ps ms) (sym o) ∙ turned.is;
  }

  pub none_left : Turn wanted done ps ms whole None → done ≡ whole
  none_left turned = sym (append-nil done) ∙ turned.is

-- ---- what is woven in all

abbrev pub pairs : List (List ℕ) → List (List ℕ × Unit {0})
pairs ps = map (λ p. (p, tt {0})) ps

abbrev pub Above : {X : Type 0} → List ℕ → List (List ℕ × X) → Type 0
Above k es = T (below_all by_bytes k es)

abbrev pub Rising : {X : Type 0} → List (List ℕ × X) → Type 0
Rising es = T (is_sorted by_bytes es)

abbrev pub among : List ℕ → List (List ℕ) → Bool
among p ps = list_any (λ q. same_path p q) ps

-- whether a path is woven: it is wanted, there may be a row of it, and it may be marked
abbrev pub is_woven : {X : Type 0} → Bool → Option X → Option Bool → Bool
is_woven wanted row None = is_some row
is_woven wanted row (Some there) = there && wanted

above_all : {X : Type 0} (k : List ℕ) (e : List ℕ × X) (es : List (List ℕ × X)) → by_bytes k e.0 ≡ Less → Above e.0 es → Above k (e ∷ es)
above_all k e es o h = let less = is_less k e.0 o in both _ _ less (below_later k e.0 es less h)

module _ {X : Type 0} (wanted : Patterns) where
  -- These paths are woven of these rows and marks.
  pub record AreWoven (es : List (List ℕ × X)) (ms : List Mark) (ws : List (List ℕ)) : Type 0 where
    pub rising : Rising (pairs ws)
    pub above : (k : List ℕ) → Above k es → Above k ms → Above k (pairs ws)
    pub has : (p : List ℕ) → among p ws ≡ is_woven (admits wanted p) (find by_bytes p es) (find by_bytes p ms)

  row_woven : (e : List ℕ × X) (es : List (List ℕ × X)) (ms : List Mark) (ws : List (List ℕ)) → Above e.0 es → Above e.0 ms → AreWoven es ms ws → AreWoven (e ∷ es) ms (e.0 ∷ ws)
  row_woven e es ms ws h g are = record {
    rising = both _ _ (are.above e.0 h g) are.rising;
    above = λ k a b. both _ _ (first _ _ a) (are.above k (second _ _ a) b);
    has = λ p.
        elim (same_path p e.0) as (λ s. same_path p e.0 ≡ s → (s || among p ws) ≡ is_woven (admits wanted p) (cond s (Some e.1) (find by_bytes p es)) (find by_bytes p ms)) [
          | true ↦ λ s. sym (ap (is_woven (admits wanted p) (Some e.1)) (none_above p ms (subst (λ q. Above q ms) (sym (same_path-is p e.0 s)) g)))
          | false ↦ λ s. are.has p
        ] refl;
  }

  same_woven : (e : List ℕ × X) (es : List (List ℕ × X)) (m : Mark) (ms : List Mark) (ws : List (List ℕ)) → e.0 ≡ m.0 → AreWoven es (m ∷ ms) ws → AreWoven (e ∷ es) (m ∷ ms) ws
  same_woven e es m ms ws same are = record {
    rising = are.rising;
    above = λ k a b. are.above k (second _ _ a) b;
    has = λ p. are.has p
        ∙ (elim (same_path p m.0) as (λ s. same_path p e.0 ≡ s → is_woven (admits wanted p) (find by_bytes p es) (cond s (Some m.1) (find by_bytes p ms))
        ≡ is_woven (admits wanted p) (cond (same_path p e.0) (Some e.1) (find by_bytes p es)) (cond s (Some m.1) (find by_bytes p ms))) [
          | true ↦ λ s. refl
          | false ↦ λ s. ap (λ b. is_woven (admits wanted p) (cond b (Some e.1) (find by_bytes p es)) (find by_bytes p ms)) (sym s)
        ] (ap (same_path p) same));
  }

  mark_woven : (m : Mark) (ms : List Mark) (es : List (List ℕ × X)) (ws : List (List ℕ)) → Above m.0 es → Above m.0 ms → AreWoven es ms ws → AreWoven es (m ∷ ms) (shown wanted (Some m) ++ ws)
  mark_woven m ms es ws h g are = record {
    rising = elim (m.1 && admits wanted m.0) as (λ b. Rising (pairs (cond b (m.0 ∷ []) [] ++ ws))) [ true ↦ both _ _ (are.above m.0 h g) are.rising | false ↦ are.rising ];
    above = λ k a b.
        elim (m.1 && admits wanted m.0) as (λ b. Above k (pairs (cond b (m.0 ∷ []) [] ++ ws))) [ true ↦ both _ _ (first _ _ b) (are.above k a (second _ _ b)) | false ↦ are.above k a (second _ _ b) ];
    has = λ p.
        added (m.1 && admits wanted m.0) p
        ∙ elim (same_path p m.0) as (λ s. same_path p m.0 ≡ s → (((m.1 && admits wanted m.0) && s) || among p ws)
        ≡ is_woven (admits wanted p) (find by_bytes p es) (cond s (Some m.1) (find by_bytes p ms))) [
          | true ↦ λ s.
              let is : m.0 ≡ p = sym (same_path-is p m.0 s) in
              ap (λ q. ((m.1 && admits wanted q) && true) || among p ws) is
              ∙ alone (m.1 && admits wanted p) (among p ws)
              (are.has p ∙ λ i. is_woven (admits wanted p) (none_above p es (subst (λ q. Above q es) is h) i) (none_above p ms (subst (λ q. Above q ms) is g) i))
          | false ↦ λ s. besides (m.1 && admits wanted m.0) (among p ws) ∙ are.has p
        ] refl;
  }
    where
      added : (b : Bool) (p : List ℕ) → among p (cond b (m.0 ∷ []) [] ++ ws) ≡ ((b && same_path p m.0) || among p ws)
      added true p = refl
      added false p = refl

      alone : (b c : Bool) → c ≡ false → ((b && true) || c) ≡ b
      alone true c e = refl
      alone false c e = e

      besides : (b c : Bool) → ((b && false) || c) ≡ c
      besides true c = refl
      besides false c = refl

  -- with one mark, where this holds of the marks after it
  woven_with : (m : Mark) (ms : List Mark) → Rising (m ∷ ms) → ((es : List (List ℕ × X)) → Rising es → AreWoven es ms (woven wanted (map (λ e. e.0) es) ms))
      → (es : List (List ℕ × X)) → Rising es → AreWoven es (m ∷ ms) (woven wanted (map (λ e. e.0) es) (m ∷ ms))
  woven_with m ms up rest [] h = mark_woven m ms [] (woven wanted [] ms) tt (first _ _ up) (rest [] tt)
  woven_with m ms up rest (e ∷ es) h =
      let later = woven wanted (map (λ e. e.0) es) (m ∷ ms) in
      let are = woven_with m ms up rest es (second _ _ h) in
      elim (by_bytes e.0 m.0) as (λ r. by_bytes e.0 m.0 ≡ r
      → AreWoven (e ∷ es) (m ∷ ms) (by_order r (e.0 ∷ later) later (shown wanted (Some m) ++ woven wanted (map (λ e. e.0) (e ∷ es)) ms))) [
        | Less ↦ λ o. row_woven e es (m ∷ ms) later (first _ _ h) (above_all e.0 m ms o (first _ _ up)) are
        | Equal ↦ λ o. same_woven e es m ms later (same_order e.0 m.0 o) are
        | Greater ↦ λ o. mark_woven m ms (e ∷ es) _ (above_all m.0 e es (turned e.0 m.0 Greater o) (first _ _ h)) (first _ _ up) (rest (e ∷ es) h)
      ] refl

  pub are_woven : (ms : List Mark) → Rising ms → (es : List (List ℕ × X)) → Rising es → AreWoven es ms (woven wanted (map (λ e. e.0) es) ms)
  are_woven (m ∷ ms) up es h = woven_with m ms up (are_woven ms (second _ _ up)) es h
  are_woven [] up [] h = record { rising = tt; above = λ k a b. tt; has = λ p. refl }
  are_woven [] up (e ∷ es) h = row_woven e es [] (map (λ e. e.0) es) (first _ _ h) tt (are_woven [] up es (second _ _ h))
