-- The merge of two lists of files has just the paths at which they have another file.
use Rattle.std.proofs.Common.{◌≡◌, ℕ, inl, inr, Bool, true, false, cond, not, ◌&&◌, ◌||◌, List, [], ◌∷◌, Option, Some, None, refl, sym, ap, ◌∙◌}
use Rattle.std.proofs.lemmas.Bool.{cases_Bool}
use Rattle.std.specs.declared.cmp.Ordering.{Ordering}
use Rattle.std.specs.declared.cmp.Ordering.TheVariants.{Less, Equal, Greater}
use Rattle.std.specs.Ordering.{is_eq, ordering_reverse}
use Rattle.std.specs.Cmp.{tied_itself}
use Rattle.std.specs.Cmp.Lexicographic.{nat_list_cmp_total}
use Rattle.std.specs.FinMap.Entries.{by_order}
use Rattle.std.specs.List.{list_any}
use Rattle.std.specs.List.Sorted.{IsStrictlySortedBy}
use Rattle.eden_ids.specs.declared.id.Id.{Id}
use Rattle.eden_ids.specs.declared.content.Kind.{Kind}
use Rattle.eden_ids.specs.FileMaps.{same_path}
use Rattle.eden_objects.specs.Commits.{Row, find_row}
use Rattle.eden_objects.proofs.Rising.{IsBelow}
use Rattle.eden_objects.proofs.Closed.{same_id-refl}
use Rattle.eden_objects.proofs.Maps.{same_test}
use Rattle.eden_treediff.specs.Merges.{merge_row, merge_rows, paths_of, same_found, same_row}
use Rattle.eden_treediff.specs.Laws.{MergesTell, SameMerge, Rise}
use Rattle.eden_treediff.proofs.Blocks.{order}
use Rattle.eden_ids.proofs.FileMapLemmas.{same_kind-refl, same_order}

pub row_same : (r : Row) → same_row r r ≡ true
row_same r = (λ i. same_kind-refl r.1 i && same_id-refl r.2 i)

pub same_law : SameMerge
same_law [] = refl
same_law (r ∷ rs) =
    ap (λ o. by_order o (r.0 ∷ merge_rows rs (r ∷ rs)) (cond (same_row r r) (merge_rows rs rs) (r.0 ∷ merge_rows rs rs)) (r.0 ∷ merge_row r (merge_rows rs) rs)) (tied_itself nat_list_cmp_total r.0)
    ∙ ap (λ b. cond b (merge_rows rs rs) (r.0 ∷ merge_rows rs rs)) (row_same r) ∙ same_law rs

abbrev pub has : List ℕ → List (List ℕ) → Bool
has p ps = list_any (λ q. same_path p q) ps

of_order : (o : Ordering) → is_eq o ≡ true → o ≡ Equal
of_order Equal h = refl
of_order Less h = absurd (cc)
of_order Greater h = absurd (cc)

found_by : (p : List ℕ) (r : Row) (rs : List Row) → find_row p (r ∷ rs) ≡ cond (same_path p r.0) (Some (r.1, r.2)) (find_row p rs)
found_by p r rs = ap (λ b. cond b (Some (r.1, r.2)) (find_row p rs)) (sym (same_test p r.0))

-- a path below all is not found
apart : (p q : List ℕ) → order p q ≡ Less → same_path p q ≡ false
apart p q h = ap is_eq h

pub not_found : (p : List ℕ) (rs : List Row) → IsBelow p rs → find_row p rs ≡ None
not_found p [] h = refl
not_found p (r ∷ rs) h = found_by p r rs ∙ ap (λ b. cond b (Some (r.1, r.2)) (find_row p rs)) (apart p r.0 h.0) ∙ not_found p rs h.1

pub below_more : (p q : List ℕ) (rs : List Row) → order p q ≡ Less → IsBelow q rs → IsBelow p rs
below_more p q [] less h = tt
below_more p q (r ∷ rs) less h = (nat_list_cmp_total.trans p q r.0 less h.0, below_more p q rs less h.1)

paths_tell : (p : List ℕ) (ss : List Row) → has p (paths_of ss) ≡ not (same_found None (find_row p ss))
paths_tell p [] = refl
paths_tell p (s ∷ ss) = elim (cases_Bool (same_path p s.0)) [
  | inl t ↦ ap (λ b. b || has p (paths_of ss)) t
      ∙ sym (ap (λ f. not (same_found None f)) (found_by p s ss ∙ ap (λ b. cond b (Some (s.1, s.2)) (find_row p ss)) t))
  | inr f ↦ ap (λ b. b || has p (paths_of ss)) f ∙ paths_tell p ss
      ∙ sym (ap (λ g. not (same_found None g)) (found_by p s ss ∙ ap (λ b. cond b (Some (s.1, s.2)) (find_row p ss)) f))
]

some_alone : (x : Kind × Id) (o : Option (Kind × Id)) → o ≡ None → not (same_found (Some x) o) ≡ true
some_alone x o h = ap (λ z. not (same_found (Some x) z)) h

alone_some : (x : Kind × Id) (o : Option (Kind × Id)) → o ≡ None → not (same_found o (Some x)) ≡ true
alone_some x o h = ap (λ z. not (same_found z (Some x))) h

-- a row that is first
left_tells : (t : Bool) (x : Kind × Id) (more : Bool) (a b : Option (Kind × Id)) → (t ≡ true → b ≡ None) → more ≡ not (same_found a b) → (t || more) ≡ not (same_found (cond t (Some x) a) b)
left_tells true x more a b h g = sym (some_alone x b (h refl))
left_tells false x more a b h g = g

right_tells : (t : Bool) (x : Kind × Id) (more : Bool) (a b : Option (Kind × Id)) → (t ≡ true → a ≡ None) → more ≡ not (same_found a b) → (t || more) ≡ not (same_found a (cond t (Some x) b))
right_tells true x more a b h g = sym (alone_some x a (h refl))
right_tells false x more a b h g = g

both_tell : (t same : Bool) (x y : Kind × Id) (p q : List ℕ) (ps : List (List ℕ)) (a b : Option (Kind × Id)) → same ≡ same_found (Some x) (Some y) → same_path p q ≡ t
    → (t ≡ true → (a ≡ None) × (b ≡ None)) → has p ps ≡ not (same_found a b)
    → has p (cond same ps (q ∷ ps)) ≡ not (same_found (cond t (Some x) a) (cond t (Some y) b))
both_tell true true x y p q ps a b same is h g =
    let none = h refl in g ∙ ap (λ z. not (same_found z b)) none.0 ∙ ap (λ z. not (same_found None z)) none.1 ∙ ap not same
both_tell true false x y p q ps a b same is h g = ap (λ c. c || has p ps) is ∙ ap not same
both_tell false true x y p q ps a b same is h g = g
both_tell false false x y p q ps a b same is h g = ap (λ c. c || has p ps) is ∙ g

abbrev pub Tells : List ℕ → List Row → List Row → List (List ℕ) → Type 0
Tells p rs ss ps = has p ps ≡ not (same_found (find_row p rs) (find_row p ss))

at_first : (p q : List ℕ) (rs : List Row) → IsBelow q rs → same_path p q ≡ true → find_row p rs ≡ None
at_first p q rs h t = ap (λ z. find_row z rs) (same_order p q (of_order (order p q) t)) ∙ not_found q rs h

path_as : (p q r : List ℕ) → order q r ≡ Equal → same_path p q ≡ same_path p r
path_as p q r h = ap (same_path p) (same_order q r h)

exact_step : (p : List ℕ) (r : Row) (rs : List Row) → IsBelow r.0 rs → ((zs : List Row) → Rise zs → Tells p rs zs (merge_rows rs zs))
    → (ss : List Row) → Rise ss → Tells p (r ∷ rs) ss (merge_row r (merge_rows rs) ss)
unfolding IsStrictlySortedBy
exact_step p r rs h rest [] rise =
    left_tells (same_path p r.0) (r.1, r.2) (has p (merge_rows rs [])) (find_row p rs) None (λ t. refl) (rest [] tt)
    ∙ ap (λ f. not (same_found f None)) (sym (found_by p r rs))
exact_step p r rs h rest (s ∷ ss) rise =
    let found_r = found_by p r rs in
    let found_s = found_by p s ss in
    elim (order r.0 s.0) as (λ o. order r.0 s.0 ≡ o
    → Tells p (r ∷ rs) (s ∷ ss) (by_order o (r.0 ∷ merge_rows rs (s ∷ ss)) (cond (same_row r s) (merge_rows rs ss) (r.0 ∷ merge_rows rs ss)) (s.0 ∷ merge_row r (merge_rows rs) ss))) [
      | Less ↦ λ less.
          left_tells (same_path p r.0) (r.1, r.2) (has p (merge_rows rs (s ∷ ss))) (find_row p rs) (find_row p (s ∷ ss))
          (λ t. at_first p r.0 (s ∷ ss) (less, below_more r.0 s.0 ss less rise.0) t) (rest (s ∷ ss) rise)
          ∙ ap (λ f. not (same_found f (find_row p (s ∷ ss)))) (sym found_r)
      | Equal ↦ λ same.
          both_tell (same_path p r.0) (same_row r s) (r.1, r.2) (s.1, s.2) p r.0 (merge_rows rs ss) (find_row p rs) (find_row p ss) refl refl
          (λ t. (at_first p r.0 rs h t, at_first p s.0 ss rise.0 (sym (path_as p r.0 s.0 same) ∙ t))) (rest ss rise.1)
          ∙ ap (λ f. not (same_found f (cond (same_path p r.0) (Some (s.1, s.2)) (find_row p ss)))) (sym found_r)
          ∙ ap (λ f. not (same_found (find_row p (r ∷ rs)) f)) (ap (λ b. cond b (Some (s.1, s.2)) (find_row p ss)) (path_as p r.0 s.0 same) ∙ sym found_s)
      | Greater ↦ λ above.
          let less : order s.0 r.0 ≡ Less = nat_list_cmp_total.antisymm s.0 r.0 ∙ ap ordering_reverse above in
          right_tells (same_path p s.0) (s.1, s.2) (has p (merge_row r (merge_rows rs) ss)) (find_row p (r ∷ rs)) (find_row p ss)
          (λ t. at_first p s.0 (r ∷ rs) (less, below_more s.0 r.0 rs less h) t) (exact_step p r rs h rest ss rise.1)
          ∙ ap (λ f. not (same_found (find_row p (r ∷ rs)) f)) (sym found_s)
    ] refl

exact_at : (p : List ℕ) (rs : List Row) → Rise rs → (ss : List Row) → Rise ss → Tells p rs ss (merge_rows rs ss)
unfolding IsStrictlySortedBy
exact_at p [] rise ss rises = paths_tell p ss
exact_at p (r ∷ rs) rise ss rises = exact_step p r rs rise.0 (λ zs h. exact_at p rs rise.1 zs h) ss rises

pub exact_law : MergesTell
exact_law rs ss rise rises p = exact_at p rs rise ss rises
