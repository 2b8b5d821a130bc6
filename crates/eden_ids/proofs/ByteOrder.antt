-- In byte order what lies below a path is together: from the path with a slash after it to the path with the next byte after it.
use Rattle.std.proofs.Common.{◌≡◌, ℕ, suc, zero, ◌-◌, ◌<◌, ◌≤◌, Bool, true, false, cond, not, T, ◌&&◌, ◌||◌, nat_eq, nat_lt, List, [], ◌∷◌, ◌++◌, map, take, drop, length, refl, sym, ap, ◌∙◌, arith}
use Rattle.std.proofs.lemmas.Bool.Decides.{nat_tests}
use Rattle.std.specs.Prelude.{filter}
use Rattle.std.specs.declared.cmp.Ordering.{Ordering}
use Rattle.std.specs.declared.cmp.Ordering.TheVariants.{Less, Equal, Greater}
use Rattle.std.specs.Ordering.{nat_cmp, is_lt, is_le, is_eq, ordering_reverse, ordering_then}
use Rattle.std.specs.Cmp.Lexicographic.{slice_cmp, nat_list_cmp_total}
use Rattle.std.specs.List.{AllByRecursion, list_any, slice_index_or, slice_range, starts_with}
use Rattle.std.specs.List.Sorted.{IsPartitionPoint, IsPartitionedBy, IsStrictlySortedBy}
use Rattle.std.specs.FinMap as fin
use Rattle.std.specs.FinMap.{is_sorted}
use Rattle.std.specs.FinMap.Entries.{below_all}
use Rattle.eden_ids.specs.Paths.{lies_below}

abbrev pub order : List ℕ → List ℕ → Ordering
order = slice_cmp nat_cmp

pub first : (a b : Bool) → T (a && b) → T a
first true b p = tt
first false b p = p

pub second : (a b : Bool) → T (a && b) → T b
second true b p = p
second false b p = absurd p

pub both : (a b : Bool) → T a → T b → T (a && b)
both true b p q = q
both false b p q = absurd p

pub less : (r : Ordering) → T (is_lt r) → r ≡ Less
less Less p = refl
less Equal p = absurd p
less Greater p = absurd p

pub is_less : (r : Ordering) → is_lt r ≡ true → r ≡ Less
is_less Less e = refl
is_less Equal e = absurd (cc)
is_less Greater e = absurd (cc)

pub not_back : (a b : List ℕ) → order a b ≡ Less → is_lt (order b a) ≡ false
not_back a b e = ap is_lt (nat_list_cmp_total.antisymm b a ∙ ap ordering_reverse e)

-- ---- the keys of sorted entries ascend

all_after : {X : Type 0} (k : List ℕ) (es : List (List ℕ × X)) → T (below_all order k es) → AllByRecursion (λ y. order k y ≡ Less) (map (λ e. e.0) es)
all_after k [] h = tt
all_after k (e ∷ es) h = (less _ (first _ _ h), all_after k es (second _ _ h))

pub keys_rise : {X : Type 0} (es : List (List ℕ × X)) → T (is_sorted order es) → IsStrictlySortedBy order (map (λ e. e.0) es)
unfolding IsStrictlySortedBy
keys_rise [] h = tt
keys_rise (e ∷ es) h = (all_after e.0 es (first _ _ h), keys_rise es (second _ _ h))

-- the keys of a finite map, so the paths of a file map and the members of a set of paths
pub fin_keys_rise : {X : Type 0} (m : fin.FinMap (slice_cmp nat_cmp) X) → IsStrictlySortedBy order (fin.keys m)
fin_keys_rise m = keys_rise (fin.entries m) (fin.entries_sorted m)

-- ---- a path before another one and a byte

pub before_short : (q p : List ℕ) (b : ℕ) → length q ≤ length p → is_lt (order q (p ++ b ∷ [])) ≡ is_le (order q p)
before_short [] [] b h = refl
before_short [] (x ∷ xs) b h = refl
before_short (y ∷ ys) [] b h = absurd (omega arith)
before_short (y ∷ ys) (x ∷ xs) b h =
    let rest = before_short ys xs b (omega arith) in
    elim (nat_cmp y x) as (λ o. is_lt (ordering_then o (order ys (xs ++ b ∷ []))) ≡ is_le (ordering_then o (order ys xs))) [ Less ↦ refl | Equal ↦ rest | Greater ↦ refl ]

not_before_none : (ys : List ℕ) → is_lt (order ys []) ≡ false
not_before_none [] = refl
not_before_none (y ∷ ys) = refl

pub before_long : (q p : List ℕ) (b : ℕ) → length p < length q → is_lt (order q (p ++ b ∷ [])) ≡ is_lt (ordering_then (order (take (length p) q) p) (nat_cmp (slice_index_or q (length p) 0) b))
before_long [] p b h = absurd (omega arith)
before_long (y ∷ ys) [] b h =
    elim (nat_cmp y b) as (λ o. is_lt (ordering_then o (order ys [])) ≡ is_lt o) [ Less ↦ refl | Equal ↦ not_before_none ys | Greater ↦ refl ]
before_long (y ∷ ys) (x ∷ xs) b h =
    let rest = before_long ys xs b (omega arith) in
    elim (nat_cmp y x) as (λ o. is_lt (ordering_then o (order ys (xs ++ b ∷ []))) ≡ is_lt (ordering_then (ordering_then o (order (take (length xs) ys) xs)) (nat_cmp (slice_index_or ys (length xs) 0) b))) [
      | Less ↦ refl
      | Equal ↦ rest
      | Greater ↦ refl
    ]

-- ---- below a path

abbrev pub from : List ℕ → List ℕ
from p = p ++ 47 ∷ []

abbrev pub upto : List ℕ → List ℕ
upto p = p ++ 48 ∷ []

same_byte : (x y : ℕ) → nat_eq x y ≡ is_eq (nat_cmp y x)
same_byte x y = grind (arith, nat_tests)

lt_then : (a b : ℕ) (ys : List ℕ) → is_lt (ordering_then (nat_cmp a b) (order ys [])) ≡ nat_lt a b
lt_then a b ys =
    (elim (nat_cmp a b) as (λ o. is_lt (ordering_then o (order ys [])) ≡ is_lt o) [ Less ↦ refl | Equal ↦ not_before_none ys | Greater ↦ refl ]) ∙ lower a b
  where
    lower : (a b : ℕ) → is_lt (nat_cmp a b) ≡ nat_lt a b
    lower a b = grind (arith, nat_tests)

slash : (y : ℕ) → (nat_eq 47 y && true) ≡ (not (nat_lt y 47) && nat_lt y 48)
slash y = grind (arith, nat_tests)

pub begins_with_none : (ys : List ℕ) → starts_with nat_eq ys [] ≡ true
begins_with_none [] = refl
begins_with_none (y ∷ ys) = refl

-- the paths below a path are those between these two texts
pub below_between : (q p : List ℕ) → lies_below q p ≡ (not (is_lt (order q (from p))) && is_lt (order q (upto p)))
below_between [] [] = refl
below_between [] (x ∷ xs) = refl
below_between (y ∷ ys) [] =
    ap (λ b. nat_eq 47 y && b) (begins_with_none ys)
    ∙ slash y
    ∙ ap (λ b. not b && nat_lt y 48) (sym (lt_then y 47 ys))
    ∙ ap (λ b. not (is_lt (ordering_then (nat_cmp y 47) (order ys []))) && b) (sym (lt_then y 48 ys))
below_between (y ∷ ys) (x ∷ xs) =
    let rest = below_between ys xs in
    ap (λ b. b && lies_below ys xs) (same_byte x y)
    ∙ (elim (nat_cmp y x) as (λ o. (is_eq o && lies_below ys xs) ≡ (not (is_lt (ordering_then o (order ys (from xs)))) && is_lt (ordering_then o (order ys (upto xs))))) [
      | Less ↦ refl
      | Equal ↦ rest
      | Greater ↦ refl
    ])

from_before_upto : (p : List ℕ) → order (from p) (upto p) ≡ Less
from_before_upto [] = refl
from_before_upto (x ∷ xs) = ap (λ o. ordering_then o (order (from xs) (upto xs))) (itself x) ∙ from_before_upto xs
  where
    itself : (x : ℕ) → nat_cmp x x ≡ Equal
    itself x = grind (arith, nat_tests)

wider : (q p : List ℕ) → is_lt (order q (from p)) ≡ true → is_lt (order q (upto p)) ≡ true
wider q p h = ap is_lt (nat_list_cmp_total.trans q (from p) (upto p) (is_less _ h) (from_before_upto p))

-- ---- what is kept under paths in byte order

module _ {X : Type 0} (path : X → List ℕ) where
  after_first : (p : List ℕ) (xs : List X) (j : ℕ) (d : X) → AllByRecursion (λ q. order p q ≡ Less) (map path xs) → j < length xs → order p (path (slice_index_or xs j d)) ≡ Less
  after_first p [] j d all within = absurd (omega arith)
  after_first p (x ∷ xs) zero d all within = all.0
  after_first p (x ∷ xs) (suc j) d all within = after_first p xs j d all.1 (omega arith)

  -- those that come before a text come first
  pub parted : (k : List ℕ) (xs : List X) → IsStrictlySortedBy order (map path xs) → IsPartitionedBy (λ x. is_lt (order (path x) k)) xs
  unfolding IsStrictlySortedBy
  parted k [] sorted i j d low within up = absurd (omega arith)
  parted k (x ∷ xs) sorted zero zero d low within up = up
  parted k (x ∷ xs) sorted (suc i) zero d low within up = absurd (omega arith)
  parted k (x ∷ xs) sorted zero (suc j) d low within up =
      ap is_lt (nat_list_cmp_total.trans (path x) (path (slice_index_or xs j d)) k (after_first (path x) xs j d sorted.0 (omega arith)) (is_less _ up))
  parted k (x ∷ xs) sorted (suc i) (suc j) d low within up = parted k xs sorted.1 i j d (omega arith) (omega arith) up

  abbrev pub IsPlaceOf : List ℕ → List X → ℕ → Type 0
  IsPlaceOf k xs i = IsPartitionPoint (λ x. is_lt (order (path x) k) ≡ true) (λ x. is_lt (order (path x) k) ≡ false) xs i

  later : (k : List ℕ) (x : X) (xs : List X) (i : ℕ) → IsPlaceOf k (x ∷ xs) (suc i) → IsPlaceOf k xs i
  later k x xs i point = ((λ j d low high. point.0 (suc j) d (omega arith) (omega arith)), (λ j d low high. point.1 (suc j) d (omega arith) (omega arith)))

  all_later : (k : List ℕ) (x : X) (xs : List X) → IsPlaceOf k (x ∷ xs) 0 → IsPlaceOf k xs 0
  all_later k x xs point = ((λ j d low high. absurd (omega arith)), (λ j d low high. point.1 (suc j) d (omega arith) (omega arith)))

  pub in_order : (p : List ℕ) (xs : List X) (i j : ℕ) → IsPlaceOf (from p) xs i → IsPlaceOf (upto p) xs j → i ≤ length xs → i ≤ j
  in_order p xs zero j low high within = omega arith
  in_order p [] (suc i) j low high within = absurd (omega arith)
  in_order p (x ∷ xs) (suc i) zero low high within =
      let over = high.1 0 x (omega arith) (omega arith) in
      let under = wider (path x) p (low.0 0 x (omega arith) (omega arith)) in
      absurd (let bad : true ≡ false = sym under ∙ over in cc)
  in_order p (x ∷ xs) (suc i) (suc j) low high within =
      let rest = in_order p xs i j (later (from p) x xs i low) (later (upto p) x xs j high) (omega arith) in omega (arith, rest)

  is_below : (q p : List ℕ) (a b : Bool) → is_lt (order q (from p)) ≡ a → is_lt (order q (upto p)) ≡ b → lies_below q p ≡ (not a && b)
  is_below q p a b x y = below_between q p ∙ ap (λ c. not c && is_lt (order q (upto p))) x ∙ ap (λ c. not a && c) y

  whole : (xs : List X) (n : ℕ) → slice_range xs 0 n ≡ take n xs
  whole [] n = ap (λ k. take {A = X} k []) (all n)
    where
      all : (n : ℕ) → n - 0 ≡ n
      all n = omega arith
  whole (x ∷ xs) n = ap (λ k. take k (x ∷ xs)) (all n)
    where
      all : (n : ℕ) → n - 0 ≡ n
      all n = omega arith

  -- the part between the two places is what lies below the path
  pub part_below : (p : List ℕ) (xs : List X) (i j : ℕ) → i ≤ length xs → j ≤ length xs → IsPlaceOf (from p) xs i → IsPlaceOf (upto p) xs j
      → slice_range xs i j ≡ filter (λ x. lies_below (path x) p) xs
  part_below p [] i j low high starts ends = nothing (j - i) i
    where
      nothing : (n m : ℕ) → take {A = X} n (drop m []) ≡ []
      nothing zero zero = refl
      nothing zero (suc m) = refl
      nothing (suc n) zero = refl
      nothing (suc n) (suc m) = refl
  part_below p (x ∷ xs) (suc i) (suc j) low high starts ends =
      let out = is_below (path x) p true true (starts.0 0 x (omega arith) (omega arith)) (ends.0 0 x (omega arith) (omega arith)) in
      let less_one : suc j - suc i ≡ j - i = omega arith in
      ap (λ n. take n (drop i xs)) less_one
      ∙ part_below p xs i j (omega arith) (omega arith) (later (from p) x xs i starts) (later (upto p) x xs j ends)
      ∙ ap (λ b. cond b (x ∷ filter (λ y. lies_below (path y) p) xs) (filter (λ y. lies_below (path y) p) xs)) (sym out)
  part_below p (x ∷ xs) (suc i) zero low high starts ends =
      let over = ends.1 0 x (omega arith) (omega arith) in
      let under = wider (path x) p (starts.0 0 x (omega arith) (omega arith)) in
      absurd (let bad : true ≡ false = sym under ∙ over in cc)
  part_below p (x ∷ xs) zero (suc j) low high starts ends =
      let within = is_below (path x) p false true (starts.1 0 x (omega arith) (omega arith)) (ends.0 0 x (omega arith) (omega arith)) in
      let rest = part_below p xs zero j (omega arith) (omega arith) (all_later (from p) x xs starts) (later (upto p) x xs j ends) in
      whole (x ∷ xs) (suc j)
      ∙ ap (λ ys. x ∷ ys) (sym (whole xs j) ∙ rest)
      ∙ ap (λ b. cond b (x ∷ filter (λ y. lies_below (path y) p) xs) (filter (λ y. lies_below (path y) p) xs)) (sym within)
  part_below p (x ∷ xs) zero zero low high starts ends =
      let out = is_below (path x) p false false (starts.1 0 x (omega arith) (omega arith)) (ends.1 0 x (omega arith) (omega arith)) in
      let rest = part_below p xs zero zero (omega arith) (omega arith) (all_later (from p) x xs starts) (all_later (upto p) x xs ends) in
      whole (x ∷ xs) 0 ∙ sym (whole xs 0) ∙ rest ∙ ap (λ b. cond b (x ∷ filter (λ y. lies_below (path y) p) xs) (filter (λ y. lies_below (path y) p) xs)) (sym out)

-- ---- whether a filtered list is empty, and whether it has one

pub any_filter : {X : Type 0} (test : X → Bool) (xs : List X) → list_any test xs ≡ not (nat_eq (length (filter test xs)) 0)
any_filter test [] = refl
any_filter test (x ∷ xs) =
    elim (test x) as (λ b. (b || list_any test xs) ≡ not (nat_eq (length (cond b (x ∷ filter test xs) (filter test xs))) 0)) [
      | true ↦ grind arith
      | false ↦ any_filter test xs
    ]
