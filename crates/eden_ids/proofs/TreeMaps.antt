-- A `BTreeMap` from paths, read as a finite map.
use Rattle.std.proofs.Common.{◌≡◌, ℕ, false, cond, T, ◌&&◌, List, [], ◌∷◌, map, length, Option, Some, None, refl, sym, ap, subst, ◌∙◌, arith}
use Rattle.std.specs.declared.cmp.Ordering.{Ordering}
use Rattle.std.specs.declared.cmp.Ordering.TheVariants.{Less}
use Rattle.std.specs.Ordering.{nat_cmp, eq_by_cmp, is_lt, is_eq}
use Rattle.std.specs.Cmp.{eq_by_cmp_equiv}
use Rattle.std.specs.Cmp.Lexicographic.{slice_cmp, nat_list_cmp_total}
use Rattle.std.specs.List.{AllByRecursion}
use Rattle.std.specs.List.Sorted.{IsStrictlySortedBy}
use Rattle.std.specs.Map.{lookup}
use Rattle.std.specs.BTreeMap as tree
use Rattle.std.specs.BTreeMap.{BTreeMap, is_at}
use Rattle.std.specs.FinMap as fin
use Rattle.std.specs.FinMap.Entries.{below_all, by_order}
use Rattle.std.specs.FinMap.{FinMap, find, put, is_sorted, slice_cmp-IsAntisymmetric, nat_cmp-IsAntisymmetric}
use Rattle.eden_ids.specs.FileMaps.{PathSet, has, listing, path_set}
use Rattle.eden_ids.proofs.FileMapLemmas.{same_path_set, has-path_set}
use Rattle.eden_ids.proofs.ByteOrder.{both, first, second, less}

abbrev order : List ℕ → List ℕ → Ordering
order = slice_cmp nat_cmp

no_length : {A : Type 0} (es : List A) → length es ≡ 0 → es ≡ []
no_length [] e = refl
no_length (x ∷ es) e = absurd (omega arith)

module _ {X : Type 0} where
  abbrev pub map_of : BTreeMap (List ℕ) X → FinMap order X
  map_of m = fin.from_entries m.entries

  lookup-find : (q : List ℕ) (es : List (List ℕ × X)) → lookup (is_at (order q)) es ≡ find order q es
  lookup-find q [] = refl
  lookup-find q (e ∷ es) = ap (cond (eq_by_cmp order q e.0) (Some e.1)) (lookup-find q es)

  pub get-map_of : (m : BTreeMap (List ℕ) X) (q : List ℕ) → fin.get (map_of m) q ≡ tree.get order m q
  get-map_of m q = fin.get-from_entries nat_list_cmp_total m.entries q ∙ sym (lookup-find q m.entries)

  same : (m n : FinMap order X) → ((q : List ℕ) → fin.get m q ≡ fin.get n q) → m ≡ n
  same = fin.same_map nat_list_cmp_total (slice_cmp-IsAntisymmetric nat_cmp-IsAntisymmetric)

  turn : (k q : List ℕ) (w v : Option X) → cond (is_at (order k) q) w v ≡ cond (eq_by_cmp order q k) w v
  turn k q w v = ap (λ b. cond b w v) ((eq_by_cmp_equiv nat_list_cmp_total).symm k q)

  pub map_of-insert : (m n : BTreeMap (List ℕ) X) (k : List ℕ) (v : X) → tree.Updates order m n k (Some v) → map_of n ≡ fin.insert (map_of m) k v
  map_of-insert m n k v u = same _ _ (λ q. get-map_of n q ∙ u.0 q ∙ turn k q _ _ ∙ ap (cond (eq_by_cmp order q k) (Some v)) (sym (get-map_of m q))
      ∙ sym (fin.get-insert nat_list_cmp_total (map_of m) k v q))

  pub map_of-remove : (m n : BTreeMap (List ℕ) X) (k : List ℕ) → tree.Updates order m n k None → map_of n ≡ fin.remove (map_of m) k
  map_of-remove m n k u = same _ _ (λ q. get-map_of n q ∙ u.0 q ∙ turn k q _ _ ∙ ap (cond (eq_by_cmp order q k) None) (sym (get-map_of m q))
      ∙ sym (fin.get-remove nat_list_cmp_total (map_of m) k q))

  all_above : (k : List ℕ) (es : List (List ℕ × X)) → AllByRecursion (λ y. order k y ≡ Less) (map (λ e. e.0) es) → T (below_all order k es)
  all_above k [] h = tt
  all_above k (e ∷ es) h = subst (λ r. T (is_lt r && below_all order k es)) (sym h.0) (all_above k es h.1)

  rises : (es : List (List ℕ × X)) → IsStrictlySortedBy order (map (λ e. e.0) es) → T (is_sorted order es)
  unfolding IsStrictlySortedBy
  rises [] h = tt
  rises (e ∷ es) h = both _ _ (all_above e.0 es h.0) (rises es h.1)

  put_first : (k : List ℕ) (v : X) (es : List (List ℕ × X)) → T (below_all order k es) → put order k v es ≡ (k, v) ∷ es
  put_first k v [] h = refl
  put_first k v (e ∷ es) h = ap (λ r. by_order r ((k, v) ∷ e ∷ es) ((e.0, v) ∷ es) (e ∷ put order k v es)) (less (order k e.0) (first _ _ h))

  entries-from_entries : (es : List (List ℕ × X)) → T (is_sorted order es) → fin.entries (fin.from_entries {R = order} es) ≡ es
  entries-from_entries [] h = no_length _ (sym (fin.len-entries fin.empty) ∙ fin.len-empty order X)
  entries-from_entries (e ∷ es) h =
      fin.entries-insert nat_list_cmp_total (fin.from_entries es) e.0 e.1
      ∙ ap (put order e.0 e.1) (entries-from_entries es (second _ _ h))
      ∙ put_first e.0 e.1 es (first _ _ h)

  -- a map in order has its entries where the tree has them
  pub entries-map_of : (m : BTreeMap (List ℕ) X) → tree.IsOrdered order m → fin.entries (map_of m) ≡ m.entries
  entries-map_of m h = entries-from_entries m.entries (rises m.entries h)

  pub keys-map_of : (m : BTreeMap (List ℕ) X) → tree.IsOrdered order m → fin.keys (map_of m) ≡ tree.keys m
  keys-map_of m h = ap (map (λ e. e.0)) (entries-map_of m h)

keys_alone : (ps : List (List ℕ)) → map (λ (e : List ℕ × Unit {0}). e.0) (map (λ p. (p, tt {0})) ps) ≡ ps
keys_alone [] = refl
keys_alone (p ∷ ps) = ap (λ qs. p ∷ qs) (keys_alone ps)

module _ {X : Type 0} where
  -- whether entries are in order depends on their keys alone
  below_all-keys : (k : List ℕ) (es : List (List ℕ × X)) → below_all order k (map (λ p. (p, tt {0})) (map (λ e. e.0) es)) ≡ below_all order k es
  below_all-keys k [] = refl
  below_all-keys k (e ∷ es) = ap (λ b. is_lt (order k e.0) && b) (below_all-keys k es)

  is_sorted-keys : (es : List (List ℕ × X)) → is_sorted order (map (λ p. (p, tt {0})) (map (λ e. e.0) es)) ≡ is_sorted order es
  is_sorted-keys [] = refl
  is_sorted-keys (e ∷ es) = ap (λ b. b && is_sorted order (map (λ p. (p, tt {0})) (map (λ f. f.0) es))) (below_all-keys e.0 es) ∙ ap (λ b. below_all order e.0 es && b) (is_sorted-keys es)

  -- the listing of the set of a map's keys is these keys
  listing-keys : (m : FinMap order X) → listing (path_set (fin.keys m)) ≡ fin.keys m
  listing-keys m =
      ap (map (λ e. e.0)) (entries-from_entries (map (λ p. (p, tt {0})) (fin.keys m)) (subst T (sym (is_sorted-keys (fin.entries m))) (fin.entries_sorted m)))
      ∙ keys_alone (fin.keys m)

  -- a set with the same members as a map has keys lists them
  pub listing-same : (s : PathSet) (m : FinMap order X) → ((p : List ℕ) → has s p ≡ fin.contains_key m p) → listing s ≡ fin.keys m
  listing-same s m h =
      ap listing (same_path_set s (path_set (fin.keys m)) (λ p. h p ∙ fin.contains_key-keys m p ∙ sym (has-path_set (fin.keys m) p)))
      ∙ listing-keys m

  later : (k : List ℕ) (es : List (List ℕ × X)) (v : X) (fs : List (List ℕ × X)) → T (below_all order k es) → AllByRecursion (λ e. find order e.0 fs ≡ Some e.1) es
      → AllByRecursion (λ e. find order e.0 ((k, v) ∷ fs) ≡ Some e.1) es
  later k [] v fs h all = tt
  later k (e ∷ es) v fs h all =
      (ap (λ b. cond b (Some v) (find order e.0 fs)) (apart k e.0 (less _ (first _ _ h))) ∙ all.0, later k es v fs (second _ _ h) all.1)
    where
      not_tied : (r : Ordering) → r ≡ Less → is_eq r ≡ false
      not_tied r e = ap is_eq e

      apart : (p q : List ℕ) → order p q ≡ Less → eq_by_cmp order q p ≡ false
      apart p q e = (eq_by_cmp_equiv nat_list_cmp_total).symm q p ∙ not_tied (order p q) e

  each_found : (es : List (List ℕ × X)) → T (is_sorted order es) → AllByRecursion (λ e. find order e.0 es ≡ Some e.1) es
  each_found [] h = tt
  each_found (e ∷ es) h =
      (ap (λ b. cond b (Some e.1) (find order e.0 es)) ((eq_by_cmp_equiv nat_list_cmp_total).refl e.0), later e.0 es e.1 es (first _ _ h) (each_found es (second _ _ h)))

  -- each entry is what the map has at its key
  pub entries_found : (m : FinMap order X) → AllByRecursion (λ e. fin.get m e.0 ≡ Some e.1) (fin.entries m)
  entries_found m = moved (fin.entries m) (λ e h. fin.get-entries m e.0 ∙ h) (each_found (fin.entries m) (fin.entries_sorted m))
    where
      moved : (es : List (List ℕ × X)) → ((e : List ℕ × X) → find order e.0 (fin.entries m) ≡ Some e.1 → fin.get m e.0 ≡ Some e.1)
          → AllByRecursion (λ e. find order e.0 (fin.entries m) ≡ Some e.1) es → AllByRecursion (λ e. fin.get m e.0 ≡ Some e.1) es
      moved [] f all = tt
      moved (e ∷ es) f all = (f e all.0, moved es f all.1)
