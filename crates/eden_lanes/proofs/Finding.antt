-- How the first row that holds an id is found among the first ids of a column.
use Rattle.std.proofs.lemmas.Iterator.Adapters.{position_from-zero}
use Rattle.std.proofs.Common.{take, ◌≡◌, ℕ, suc, List, [], ◌∷◌, ◌++◌, length, get_or, refl, ap, sym, ◌∙◌, ◌+◌, ◌≤◌, ◌<◌, ◌-◌, arith, Bool, true, false, cond, subst, ◌||◌}
use Rattle.std.specs.Prelude.{Option, Some, None}
use Rattle.std.specs.List.{list_any, position, position_from}
use Rattle.std.specs.Simd.Lanes.{chunk}
use Rattle.std.proofs.lemmas.List.{length-take-le, take_more, take_all}
use Rattle.std.proofs.Math.Seq.{take-add}
use Rattle.eden_ids.specs.declared.id.Id.{Id}
use Rattle.eden_ids.specs.Columns.{id_of_words}
use Rattle.eden_ids.specs.Sameness.{same_id}

-- what was found stays found in a longer list
position_from-found : {A : Type 0} (p : A → Bool) (k : ℕ) (xs ys : List A) (r : ℕ) → position_from p k xs ≡ Some r → position_from p k (xs ++ ys) ≡ Some r
position_from-found p k [] ys r is = cc
position_from-found p k (x ∷ xs) ys r is = by (p x) (λ e. position_from-found p (k + 1) xs ys r e) is
  where
    by : (t : Bool) → (position_from p (k + 1) xs ≡ Some r → position_from p (k + 1) (xs ++ ys) ≡ Some r)
        → cond t (Some k) (position_from p (k + 1) xs) ≡ Some r → cond t (Some k) (position_from p (k + 1) (xs ++ ys)) ≡ Some r
    by true rest is = is
    by false rest is = rest is

-- if nothing was found, the elements after it are looked at
position_from-behind : {A : Type 0} (p : A → Bool) (k : ℕ) (xs ys : List A) → position_from p k xs ≡ None
    → position_from p k (xs ++ ys) ≡ position_from p (k + length xs) ys
position_from-behind p k [] ys none = let e : k ≡ k + 0 = omega arith in ap (λ n. position_from p n ys) e
position_from-behind p k (x ∷ xs) ys none = by (p x) (λ e. position_from-behind p (k + 1) xs ys e) none
  where
    by : (t : Bool) → (position_from p (k + 1) xs ≡ None → position_from p (k + 1) (xs ++ ys) ≡ position_from p (k + 1 + length xs) ys)
        → cond t (Some k) (position_from p (k + 1) xs) ≡ None
        → cond t (Some k) (position_from p (k + 1) (xs ++ ys)) ≡ position_from p (k + suc (length xs)) ys
    by true rest none = cc
    by false rest none =
        let e : k + 1 + length xs ≡ k + suc (length xs) = omega arith in
        rest none ∙ ap (λ n. position_from p n ys) e

-- nothing is found where nothing passes
position_from-none : {A : Type 0} (p : A → Bool) (k : ℕ) (xs : List A) → list_any p xs ≡ false → position_from p k xs ≡ None
position_from-none p k [] none = refl
position_from-none p k (x ∷ xs) none = by (p x) (λ e. position_from-none p (k + 1) xs e) none
  where
    by : (t : Bool) → (list_any p xs ≡ false → position_from p (k + 1) xs ≡ None) → (t || list_any p xs) ≡ false
        → cond t (Some k) (position_from p (k + 1) xs) ≡ None
    by true rest none = cc
    by false rest none = rest none

-- the first row that holds the id, among the first ids of a column
abbrev pub first_in : ℕ → Id → List Id → Option ℕ
first_in n id ids = position_from (same_id id) 0 (take n ids)

-- the next row
pub first_in-next : (n : ℕ) (id : Id) (ids : List Id) (d : Id) → n < length ids → first_in n id ids ≡ None
    → first_in (n + 1) id ids ≡ cond (same_id id (get_or ids n d)) (Some n) None
first_in-next n id ids d within none =
    let l = length-take-le n ids (omega arith) in
    let place : 0 + length (take n ids) ≡ n = omega arith in
    rw (take_more ids n d within) (position_from-behind (same_id id) 0 (take n ids) (get_or ids n d ∷ []) none
    ∙ ap (λ k. cond (same_id id (get_or ids n d)) (Some k) None) place)

abbrev dull : Id
dull = id_of_words 0 0 0 0 0

-- it holds another id
pub first_in-other : (n : ℕ) (id : Id) (ids : List Id) → n < length ids → first_in n id ids ≡ None → ((d : Id) → false ≡ same_id id (get_or ids n d))
    → first_in (n + 1) id ids ≡ None
first_in-other n id ids within none other = first_in-next n id ids dull within none ∙ rw (← other dull) refl

-- what was found among the first ids was found among more of them
pub first_in-found : (n m r : ℕ) (id : Id) (ids : List Id) → first_in n id ids ≡ Some r → n ≤ m → Some r ≡ first_in m id ids
first_in-found n m r id ids is more =
    let e : n + (m - n) ≡ m = omega arith in
    sym (subst (λ k. first_in k id ids ≡ Some r) e (rw (take-add n (m - n) ids) (position_from-found (same_id id) 0 (take n ids) (chunk n (m - n) ids) r is)))

-- the next row holds the id
pub first_in-here : (n m : ℕ) (id : Id) (ids : List Id) → n < length ids → first_in n id ids ≡ None → n < m → ((d : Id) → true ≡ same_id id (get_or ids n d))
    → Some n ≡ first_in m id ids
first_in-here n m id ids within none more same =
    first_in-found (n + 1) m n id ids (first_in-next n id ids dull within none ∙ rw (← same dull) refl) (omega arith)

-- none of the next eight rows holds it
pub first_in-eight : (n : ℕ) (id : Id) (ids : List Id) → n + 8 ≤ length ids → first_in n id ids ≡ None → list_any (same_id id) (chunk n 8 ids) ≡ false
    → first_in (n + 8) id ids ≡ None
first_in-eight n id ids within none others =
    rw (take-add n 8 ids) (position_from-behind (same_id id) 0 (take n ids) (chunk n 8 ids) none
    ∙ position_from-none (same_id id) (0 + length (take n ids)) (chunk n 8 ids) others)

-- among all rows
pub first_in-whole : (id : Id) (ids : List Id) (n : ℕ) → n ≡ length ids → first_in n id ids ≡ position (same_id id) ids
first_in-whole id ids n all = ap (position_from (same_id id) 0) (take_all n ids (omega arith)) ∙ sym (position_from-zero (same_id id) ids)

pub ruleset found = (first_in-other, first_in-here, first_in-found, first_in-eight, first_in-whole)
