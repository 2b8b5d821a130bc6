-- Where an entry is, or would be, in a list in byte order of paths.
use Rattle.std.proofs.Common.{◌≡◌, ◌≢◌, ℕ, suc, zero, ◌<◌, ◌≤◌, Bool, true, false, cond, not, T, List, [], ◌∷◌, take, length, nat_eq, Option, Some, None, Result, Ok, Err, OnErr, refl, sym, ap, subst, ◌∙◌, arith}
use Rattle.std.specs.Prelude.{filter}
use Rattle.std.specs.declared.cmp.Ordering.{Ordering}
use Rattle.std.specs.declared.cmp.Ordering.TheVariants.{Less, Equal, Greater}
use Rattle.std.specs.Ordering.{is_lt, is_eq, ordering_reverse}
use Rattle.std.specs.Cmp.{tied_itself}
use Rattle.std.specs.Cmp.Lexicographic.{nat_list_cmp_total}
use Rattle.std.specs.List.{insert, remove, slice_index_or, slice_get, slice_set}
use Rattle.std.specs.List.Sorted.{IsPartitionPoint, IsPartitionedBy}
use Rattle.std.specs.FinMap as fin
use Rattle.std.specs.FinMap.{find, put, is_sorted}
use Rattle.std.specs.FinMap.Entries.{below_all, by_order, is_sorted-put, is_sorted-where_key, find-where_key}
use Rattle.std.specs.Cmp.Lexicographic.{pointwise}
use Rattle.std.proofs.lemmas.Slice.Eq.{bytes_eq-Decides}
use Rattle.eden_overlay.specs.Layers.{by_bytes}
use Rattle.eden_overlay.specs.Places.{place}
use Rattle.eden_overlay.specs.internal.There.{IsThere}
use Rattle.eden_ids.specs.FileMaps.{same_path}
use Rattle.eden_ids.proofs.FileMapLemmas.{same_path-turned}
use Rattle.eden_ids.proofs.ByteOrder.{both, first, less, second}

pub is_less : (p q : List ℕ) → by_bytes p q ≡ Less → T (is_lt (by_bytes p q))
is_less p q e = subst (λ r. T (is_lt r)) (sym e) tt

pub turned : (p q : List ℕ) (r : Ordering) → by_bytes p q ≡ r → by_bytes q p ≡ ordering_reverse r
turned p q r e = nat_list_cmp_total.antisymm q p ∙ ap ordering_reverse e

pub trans : (p q r : List ℕ) → T (is_lt (by_bytes p q)) → T (is_lt (by_bytes q r)) → T (is_lt (by_bytes p r))
trans p q r a b = is_less p r (nat_list_cmp_total.trans p q r (less _ a) (less _ b))

pub not_itself : (k : List ℕ) (r : Ordering) → by_bytes k k ≡ r → r ≢ Equal → ⊥
not_itself k r e apart = apart (sym e ∙ tied_itself nat_list_cmp_total k)

module _ {X : Type 0} where
  -- the place that a search gives is the one that counting gives
  pub place_is : (k : List ℕ) (es : List (List ℕ × X)) (i : ℕ) → i ≤ length es → IsPartitionPoint (λ e. is_lt (by_bytes e.0 k) ≡ true) (λ e. is_lt (by_bytes e.0 k) ≡ false) es i → i ≡ place k es
  place_is k [] i within point = omega arith
  place_is k (e ∷ es) zero within point = sym (ap (λ b. cond b (suc (place k es)) 0) (point.1 0 e (omega arith) (omega arith)))
  place_is k (e ∷ es) (suc i) within point =
      ap suc (place_is k es i (omega arith) ((λ j d low high. point.0 (suc j) d (omega arith) (omega arith)), (λ j d low high. point.1 (suc j) d (omega arith) (omega arith))))
      ∙ sym (ap (λ b. cond b (suc (place k es)) 0) (point.0 0 e (omega arith) (omega arith)))

  above_first : (k : List ℕ) (es : List (List ℕ × X)) (j : ℕ) (d : List ℕ × X) → T (below_all by_bytes k es) → j < length es → T (is_lt (by_bytes k (slice_index_or es j d).0))
  above_first k [] j d h within = absurd (omega arith)
  above_first k (e ∷ es) zero d h within = first _ _ h
  above_first k (e ∷ es) (suc j) d h within = above_first k es j d (second _ _ h) (omega arith)

  pub parted : (k : List ℕ) (es : List (List ℕ × X)) → T (is_sorted by_bytes es) → IsPartitionedBy (λ e. is_lt (by_bytes e.0 k)) es
  parted k [] h i j d low within up = absurd (omega arith)
  parted k (e ∷ es) h zero zero d low within up = up
  parted k (e ∷ es) h (suc i) zero d low within up = absurd (omega arith)
  parted k (e ∷ es) h zero (suc j) d low within up =
      ap is_lt (less _ (trans e.0 (slice_index_or es j d).0 k (above_first e.0 es j d (first _ _ h) (omega arith)) (subst T (sym up) tt)))
  parted k (e ∷ es) h (suc i) (suc j) d low within up = parted k es (second _ _ h) i j d (omega arith) (omega arith) up

  pub none_above : (k : List ℕ) (es : List (List ℕ × X)) → T (below_all by_bytes k es) → find by_bytes k es ≡ None
  none_above k [] h = refl
  none_above k (e ∷ es) h = ap (λ r. cond (is_eq r) (Some e.1) (find by_bytes k es)) (less _ (first _ _ h)) ∙ none_above k es (second _ _ h)

  pub below_later : (k q : List ℕ) (es : List (List ℕ × X)) → T (is_lt (by_bytes k q)) → T (below_all by_bytes q es) → T (below_all by_bytes k es)
  below_later k q [] p h = tt
  below_later k q (e ∷ es) p h = both _ _ (trans k q e.0 p (first _ _ h)) (below_later k q es p (second _ _ h))

  -- the entry that is there is found
  pub found_there : (k : List ℕ) (v : X) (es : List (List ℕ × X)) → slice_get es (place k es) ≡ Some (k, v) → find by_bytes k es ≡ Some v
  found_there k v [] h = absurd (cc)
  found_there k v (e ∷ es) h =
      elim (by_bytes k e.0) as (λ r. by_bytes k e.0 ≡ r → find by_bytes k (e ∷ es) ≡ Some v) [
        | Less ↦ λ p.
            let at : slice_get (e ∷ es) 0 ≡ Some (k, v) = subst (λ n. slice_get (e ∷ es) n ≡ Some (k, v)) (ap (λ r. cond (is_lt r) (suc (place k es)) 0) (turned k e.0 Less p)) h in
            let path : e.0 ≡ k = cc in
            absurd (not_itself k Less (ap (by_bytes k) (sym path) ∙ p) (λ (x : Less ≡ Equal). (cc)))
        | Equal ↦ λ p.
            let at : slice_get (e ∷ es) 0 ≡ Some (k, v) = subst (λ n. slice_get (e ∷ es) n ≡ Some (k, v)) (ap (λ r. cond (is_lt r) (suc (place k es)) 0) (turned k e.0 Equal p)) h in
            let value : e.1 ≡ v = cc in
            ap (λ r. cond (is_eq r) (Some e.1) (find by_bytes k es)) p ∙ ap Some value
        | Greater ↦ λ p.
            ap (λ r. cond (is_eq r) (Some e.1) (find by_bytes k es)) p
            ∙ found_there k v es (subst (λ n. slice_get (e ∷ es) n ≡ Some (k, v)) (ap (λ r. cond (is_lt r) (suc (place k es)) 0) (turned k e.0 Greater p)) h)
      ] refl

  -- if another entry is there, or none, the path is not found
  pub missing_there : (k : List ℕ) (es : List (List ℕ × X)) → T (is_sorted by_bytes es) → ((v : X) → slice_get es (place k es) ≢ Some (k, v)) → find by_bytes k es ≡ None
  missing_there k [] h apart = refl
  missing_there k (e ∷ es) h apart =
      elim (by_bytes k e.0) as (λ r. by_bytes k e.0 ≡ r → find by_bytes k (e ∷ es) ≡ None) [
        | Less ↦ λ p. ap (λ r. cond (is_eq r) (Some e.1) (find by_bytes k es)) p ∙ none_above k es (below_later k e.0 es (is_less k e.0 p) (first _ _ h))
        | Equal ↦ λ p.
            let path : k ≡ e.0 = fin.slice_cmp-IsAntisymmetric fin.nat_cmp-IsAntisymmetric k e.0 p in
            absurd (apart e.1 (ap (slice_get (e ∷ es)) (ap (λ r. cond (is_lt r) (suc (place k es)) 0) (turned k e.0 Equal p)) ∙ ap (λ q. Some (q, e.1)) (sym path)))
        | Greater ↦ λ p.
            ap (λ r. cond (is_eq r) (Some e.1) (find by_bytes k es)) p
            ∙ missing_there k es (second _ _ h) (λ v at. apart v (ap (slice_get (e ∷ es)) (ap (λ r. cond (is_lt r) (suc (place k es)) 0) (turned k e.0 Greater p)) ∙ at))
      ] refl

  -- a new entry goes to its place
  pub put_new : (k : List ℕ) (v : X) (es : List (List ℕ × X)) → find by_bytes k es ≡ None → put by_bytes k v es ≡ insert es (place k es) (k, v)
  put_new k v [] none = refl
  put_new k v (e ∷ es) none =
      elim (by_bytes k e.0) as (λ r. by_bytes k e.0 ≡ r → put by_bytes k v (e ∷ es) ≡ insert (e ∷ es) (place k (e ∷ es)) (k, v)) [
        | Less ↦ λ p.
            ap (λ r. by_order r ((k, v) ∷ e ∷ es) ((e.0, v) ∷ es) (e ∷ put by_bytes k v es)) p
            ∙ ap (λ n. insert (e ∷ es) n (k, v)) (sym (ap (λ r. cond (is_lt r) (suc (place k es)) 0) (turned k e.0 Less p)))
        | Equal ↦ λ p.
            let at : Some e.1 ≡ None = sym (ap (λ r. cond (is_eq r) (Some e.1) (find by_bytes k es)) p) ∙ none in absurd (cc)
        | Greater ↦ λ p.
            ap (λ r. by_order r ((k, v) ∷ e ∷ es) ((e.0, v) ∷ es) (e ∷ put by_bytes k v es)) p
            ∙ ap (λ fs. e ∷ fs) (put_new k v es (sym (ap (λ r. cond (is_eq r) (Some e.1) (find by_bytes k es)) p) ∙ none))
            ∙ ap (λ n. insert (e ∷ es) n (k, v)) (sym (ap (λ r. cond (is_lt r) (suc (place k es)) 0) (turned k e.0 Greater p)))
      ] refl

  -- an entry that is there is replaced
  pub put_there : (k : List ℕ) (v w : X) (es : List (List ℕ × X)) → slice_get es (place k es) ≡ Some (k, w) → put by_bytes k v es ≡ slice_set es (place k es) (k, v)
  put_there k v w [] h = absurd (cc)
  put_there k v w (e ∷ es) h =
      elim (by_bytes k e.0) as (λ r. by_bytes k e.0 ≡ r → put by_bytes k v (e ∷ es) ≡ slice_set (e ∷ es) (place k (e ∷ es)) (k, v)) [
        | Less ↦ λ p.
            let at : slice_get (e ∷ es) 0 ≡ Some (k, w) = subst (λ n. slice_get (e ∷ es) n ≡ Some (k, w)) (ap (λ r. cond (is_lt r) (suc (place k es)) 0) (turned k e.0 Less p)) h in
            let path : e.0 ≡ k = cc in
            absurd (not_itself k Less (ap (by_bytes k) (sym path) ∙ p) (λ (x : Less ≡ Equal). (cc)))
        | Equal ↦ λ p.
            let path : k ≡ e.0 = fin.slice_cmp-IsAntisymmetric fin.nat_cmp-IsAntisymmetric k e.0 p in
            ap (λ r. by_order r ((k, v) ∷ e ∷ es) ((e.0, v) ∷ es) (e ∷ put by_bytes k v es)) p
            ∙ ap (λ q. (q, v) ∷ es) (sym path)
            ∙ ap (λ n. slice_set (e ∷ es) n (k, v)) (sym (ap (λ r. cond (is_lt r) (suc (place k es)) 0) (turned k e.0 Equal p)))
        | Greater ↦ λ p.
            ap (λ r. by_order r ((k, v) ∷ e ∷ es) ((e.0, v) ∷ es) (e ∷ put by_bytes k v es)) p
            ∙ ap (λ fs. e ∷ fs) (put_there k v w es (subst (λ n. slice_get (e ∷ es) n ≡ Some (k, w)) (ap (λ r. cond (is_lt r) (suc (place k es)) 0) (turned k e.0 Greater p)) h))
            ∙ ap (λ n. slice_set (e ∷ es) n (k, v)) (sym (ap (λ r. cond (is_lt r) (suc (place k es)) 0) (turned k e.0 Greater p)))
      ] refl

  -- the map of a list after the list has an entry put in
  pub from_sorted-put : (k : List ℕ) (v : X) (es : List (List ℕ × X)) → T (is_sorted by_bytes es) → fin.from_sorted {R = by_bytes} (put by_bytes k v es) ≡ fin.insert (fin.from_sorted es) k v
  from_sorted-put k v es h =
      fin.same_entries_map _ _
      (fin.entries-from_sorted by_bytes (put by_bytes k v es) (is_sorted-put by_bytes nat_list_cmp_total k v es h)
      ∙ sym (fin.entries-insert nat_list_cmp_total (fin.from_sorted es) k v ∙ ap (put by_bytes k v) (fin.entries-from_sorted by_bytes es h)))

  -- ---- an entry that is taken out

  abbrev pub without : List ℕ → List (List ℕ × X) → List (List ℕ × X)
  without k es = filter (λ e. not (same_path k e.0)) es

  -- the path is not among them
  pub without_none : (k : List ℕ) (es : List (List ℕ × X)) → find by_bytes k es ≡ None → es ≡ without k es
  without_none k [] none = refl
  without_none k (e ∷ es) none =
      elim (same_path k e.0) as (λ b. cond b (Some e.1) (find by_bytes k es) ≡ None → e ∷ es ≡ cond (not b) (e ∷ without k es) (without k es)) [
        | true ↦ λ h. absurd (cc)
        | false ↦ λ h. ap (λ fs. e ∷ fs) (without_none k es h)
      ] none

  pub taken_out : (k : List ℕ) (w : X) (es : List (List ℕ × X)) → T (is_sorted by_bytes es) → slice_get es (place k es) ≡ Some (k, w) → remove es (place k es) ≡ without k es
  taken_out k w [] h there = absurd (cc)
  taken_out k w (e ∷ es) h there =
      elim (by_bytes k e.0) as (λ r. by_bytes k e.0 ≡ r → remove (e ∷ es) (place k (e ∷ es)) ≡ without k (e ∷ es)) [
        | Less ↦ λ p.
            let at : slice_get (e ∷ es) 0 ≡ Some (k, w) = subst (λ n. slice_get (e ∷ es) n ≡ Some (k, w)) (ap (λ r. cond (is_lt r) (suc (place k es)) 0) (turned k e.0 Less p)) there in
            let path : e.0 ≡ k = cc in
            absurd (not_itself k Less (ap (by_bytes k) (sym path) ∙ p) (λ (x : Less ≡ Equal). (cc)))
        | Equal ↦ λ p.
            let path : k ≡ e.0 = fin.slice_cmp-IsAntisymmetric fin.nat_cmp-IsAntisymmetric k e.0 p in
            ap (λ r. remove (e ∷ es) (cond (is_lt r) (suc (place k es)) 0)) (turned k e.0 Equal p)
            ∙ without_none k es (none_above k es (subst (λ q. T (below_all by_bytes q es)) (sym path) (first _ _ h)))
            ∙ sym (ap (λ r. cond (not (is_eq r)) (e ∷ without k es) (without k es)) p)
        | Greater ↦ λ p.
            ap (λ r. remove (e ∷ es) (cond (is_lt r) (suc (place k es)) 0)) (turned k e.0 Greater p)
            ∙ ap (λ fs. e ∷ fs) (taken_out k w es (second _ _ h) (subst (λ n. slice_get (e ∷ es) n ≡ Some (k, w)) (ap (λ r. cond (is_lt r) (suc (place k es)) 0) (turned k e.0 Greater p)) there))
            ∙ sym (ap (λ r. cond (not (is_eq r)) (e ∷ without k es) (without k es)) p)
      ] refl

  pub out_there : (k : List ℕ) (es : List (List ℕ × X)) (i : ℕ) → T (is_sorted by_bytes es) → i ≡ place k es → IsThere true k es i → remove es i ≡ without k es
  out_there k es i h is there = ap (remove es) is ∙ taken_out k there.0 es h (ap (slice_get es) (sym is) ∙ there.1)

  pub not_there : (k : List ℕ) (es : List (List ℕ × X)) (i : ℕ) → T (is_sorted by_bytes es) → i ≡ place k es → IsThere false k es i → es ≡ without k es
  not_there k es i h is apart = without_none k es (missing_there k es h (λ v at. apart v (ap (slice_get es) is ∙ at)))

  pub sorted_without : (k : List ℕ) (es fs : List (List ℕ × X)) → T (is_sorted by_bytes es) → fs ≡ without k es → T (is_sorted by_bytes fs)
  sorted_without k es fs h is = subst (λ gs. T (is_sorted by_bytes gs)) (sym is) (is_sorted-where_key by_bytes (λ q. not (same_path k q)) es h)

  -- the map of a list after an entry is taken out
  pub seen_without : (k : List ℕ) (es fs : List (List ℕ × X)) → T (is_sorted by_bytes es) → fs ≡ without k es
      → fin.from_sorted {R = by_bytes} fs ≡ fin.remove (fin.from_sorted {R = by_bytes} es) k
  seen_without k es fs h is =
      fin.same_map nat_list_cmp_total (fin.slice_cmp-IsAntisymmetric fin.nat_cmp-IsAntisymmetric) _ _
      (λ q.
      fin.get-from_sorted by_bytes fs q (sorted_without k es fs h is)
      ∙ ap (find by_bytes q) is
      ∙ find-where_key by_bytes (λ p. not (same_path k p)) q (λ x e. ap (λ p. not (same_path k p)) (sym (fin.slice_cmp-IsAntisymmetric fin.nat_cmp-IsAntisymmetric q x e))) es
      ∙ swapped (same_path k q) (find by_bytes q es)
      ∙ ap (λ b. cond b None (find by_bytes q es)) (same_path-turned k q)
      ∙ ap (cond (same_path q k) None) (sym (fin.get-from_sorted by_bytes es q h))
      ∙ sym (fin.get-remove nat_list_cmp_total (fin.from_sorted {R = by_bytes} es) k q))
    where
      swapped : (b : Bool) (o : Option (X)) → cond (not b) o None ≡ cond b None o
      swapped true o = refl
      swapped false o = refl

  pub told_there : (k : List ℕ) (es : List (List ℕ × X)) → IsThere true k es (place k es) → (file : X) × (find by_bytes k es ≡ Some file) × (slice_get es (place k es) ≡ Some (k, file))
  told_there k es there = (there.0, found_there k there.0 es there.1, there.1)

  pub not_told : (k : List ℕ) (es : List (List ℕ × X)) → T (is_sorted by_bytes es) → IsThere false k es (place k es) → find by_bytes k es ≡ None
  not_told k es h apart = missing_there k es h apart

  gotten : (es : List (List ℕ × X)) (i : ℕ) (d : List ℕ × X) → i < length es → slice_get es i ≡ Some (slice_index_or es i d)
  gotten [] i d within = absurd (omega arith)
  gotten (e ∷ es) zero d within = refl
  gotten (e ∷ es) (suc i) d within = gotten es i d (omega arith)

  none_got : (es : List (List ℕ × X)) (i : ℕ) → length es ≤ i → slice_get es i ≡ None
  none_got [] i within = refl
  none_got (e ∷ es) zero within = absurd (omega arith)
  none_got (e ∷ es) (suc i) within = none_got es i (omega arith)

  pub nothing_there : (k : List ℕ) (es : List (List ℕ × X)) (i : ℕ) → length es ≤ i → IsThere false k es i
  nothing_there k es i within file at = let bad : ◌≡◌ {A = Option (List ℕ × X)} None (Some (k, file)) = sym (none_got es i within) ∙ at in absurd (cc)

  pub judged_there : (k : List ℕ) (es : List (List ℕ × X)) (i : ℕ) (e : List ℕ × X) → i < length es → e ≡ slice_index_or es i e → IsThere (pointwise nat_eq e.0 k) k es i
  judged_there k es i e within is =
      let got : slice_get es i ≡ Some e = gotten es i e within ∙ ap Some (sym is) in
      elim (pointwise nat_eq e.0 k) as (λ b. pointwise nat_eq e.0 k ≡ b → IsThere b k es i) [
        | true ↦ λ t. (e.1, got ∙ ap (λ p. Some (p, e.1)) ((bytes_eq-Decides e.0 k).0 t))
        | false ↦ λ t file at.
            let both : Some e ≡ Some (k, file) = sym got ∙ at in
            let path : e.0 ≡ k = cc in
            let bad : true ≡ false = sym ((bytes_eq-Decides e.0 k).1 path) ∙ t in
            absurd (cc)
      ] refl

  pub index_there : (es : List (List ℕ × X)) (i : ℕ) (e d : List ℕ × X) → slice_get es i ≡ Some e → slice_index_or es i d ≡ e
  index_there [] i e d at = absurd (cc)
  index_there (f ∷ es) zero e d at = cc
  index_there (f ∷ es) (suc i) e d at = index_there es i e d at

  pub told_is : (k : List ℕ) (es : List (List ℕ × X)) (i : ℕ) (d : List ℕ × X) → i ≡ place k es → IsThere true k es i → Some (slice_index_or es i d).1 ≡ find by_bytes k es
  told_is k es i d is there =
      let at : slice_get es (place k es) ≡ Some (k, there.0) = ap (slice_get es) (sym is) ∙ there.1 in
      ap (λ e. Some e.1) (index_there es i (k, there.0) d there.1) ∙ sym (found_there k there.0 es at)

  pub there_within : (k : List ℕ) (es : List (List ℕ × X)) (i : ℕ) → IsThere true k es i → i < length es
  there_within k [] i there = absurd (let bad : ◌≡◌ {A = Option (List ℕ × X)} None (Some (k, there.0)) = there.1 in cc)
  there_within k (e ∷ es) zero there = omega arith
  there_within k (e ∷ es) (suc i) there = let rest = there_within k es i there in omega arith

  pub put_over : (k : List ℕ) (file : X) (es : List (List ℕ × X)) (i : ℕ) → i ≡ place k es → IsThere true k es i → slice_set es i (k, file) ≡ put by_bytes k file es
  put_over k file es i is there =
      ap (λ n. slice_set es n (k, file)) is ∙ sym (put_there k file there.0 es (ap (slice_get es) (sym is) ∙ there.1))

  pub put_beside : (k : List ℕ) (file : X) (es : List (List ℕ × X)) (i : ℕ) → T (is_sorted by_bytes es) → i ≡ place k es → IsThere false k es i → insert es i (k, file) ≡ put by_bytes k file es
  put_beside k file es i h is apart =
      ap (λ n. insert es n (k, file)) is ∙ sym (put_new k file es (missing_there k es h (λ v at. apart v (ap (slice_get es) is ∙ at))))

  no_length : (es : List (List ℕ × X)) → length es ≡ 0 → es ≡ []
  no_length [] e = refl
  no_length (x ∷ es) e = absurd (omega arith)

  pub from_sorted_nothing : (es : List (List ℕ × X)) → es ≡ [] → fin.from_sorted {R = by_bytes} es ≡ fin.empty
  from_sorted_nothing es is =
      fin.same_entries_map _ _
      (ap (λ fs. fin.entries (fin.from_sorted {R = by_bytes} fs)) is
      ∙ fin.entries-from_sorted by_bytes [] tt
      ∙ sym (no_length (fin.entries fin.empty) (sym (fin.len-entries fin.empty) ∙ fin.len-empty by_bytes (X))))

  -- what is kept of a list in order when an entry is put
  pub still_sorted : (k : List ℕ) (v : X) (es fs : List (List ℕ × X)) → T (is_sorted by_bytes es) → fs ≡ put by_bytes k v es → T (is_sorted by_bytes fs)
  still_sorted k v es fs h is = subst (λ gs. T (is_sorted by_bytes gs)) (sym is) (is_sorted-put by_bytes nat_list_cmp_total k v es h)

  pub seen_put : (k : List ℕ) (v : X) (es fs : List (List ℕ × X)) → T (is_sorted by_bytes es) → fs ≡ put by_bytes k v es
      → fin.from_sorted {R = by_bytes} fs ≡ fin.insert (fin.from_sorted {R = by_bytes} es) k v
  seen_put k v es fs h is = ap (λ gs. fin.from_sorted {R = by_bytes} gs) is ∙ from_sorted-put k v es h

  pub taken : (es : List (List ℕ × X)) (n : ℕ) → n ≤ length es → n ≡ length (take n es)
  taken [] zero h = refl
  taken [] (suc n) h = absurd (omega arith)
  taken (e ∷ es) zero h = refl
  taken (e ∷ es) (suc n) h = ap suc (taken es n (omega arith))

-- what holds where an error is handed on
pub on_err : {A E : Type 0} (r : Result A E) {P : Type 0} → P → OnErr r P
on_err (Ok x) p = tt
on_err (Err e) p = p
