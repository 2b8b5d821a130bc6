-- The rows at which two lists differ are just those, and ascend.
use Rattle.std.proofs.Common.{◌≢◌, ◌≡◌, ℕ, zero, suc, List, [], ◌∷◌, ◌++◌, length, refl, ap, ◌+◌, ◌≤◌, ◌<◌, arith, Bool, true, false, cond, nat_eq, subst}
use Rattle.std.specs.Prelude.{MatchBool, slice_get, slice_index, Some}
use Rattle.std.specs.Bool.{Decides}
use Rattle.std.specs.List.{list_any}
use Rattle.std.specs.List.Sorted.{IsStrictlyIncreasing}
use Rattle.std.proofs.lemmas.Slice.Eq.{bytes_eq-Decides}
use Rattle.eden_ids.specs.declared.id.Id.{Id}
use Rattle.eden_ids.specs.Sameness.{same_id}
use Rattle.eden_lanes.specs.Rows.{differ_from}
use Rattle.eden_lanes.specs.Laws.{AreThoseApart}

-- numbers that ascend strictly, none below k
AscendsFrom : ℕ → List ℕ → Type 0
AscendsFrom k [] = Unit {0}
AscendsFrom k (n ∷ ns) = (k ≤ n) × AscendsFrom (n + 1) ns

ascends_less : (k : ℕ) (ns : List ℕ) → AscendsFrom (k + 1) ns → AscendsFrom k ns
unfolding AscendsFrom
ascends_less k [] h = tt
ascends_less k (n ∷ ns) h = let e : k + 1 ≤ n = h.0 in (omega arith, h.1)

ascends : {A : Type 0} (same : A → A → Bool) (k : ℕ) (xs ys : List A) → AscendsFrom k (differ_from same k xs ys)
unfolding AscendsFrom
ascends same k [] ys = tt
ascends same k (x ∷ xs) [] = tt
ascends same k (x ∷ xs) (y ∷ ys) = by (same x y) (ascends same (k + 1) xs ys)
  where
    by : (t : Bool) → AscendsFrom (k + 1) (differ_from same (k + 1) xs ys) → AscendsFrom k (cond t [] (k ∷ []) ++ differ_from same (k + 1) xs ys)
    by true rest = ascends_less k (differ_from same (k + 1) xs ys) rest
    by false rest = (omega arith, rest)

increasing : (k : ℕ) (ns : List ℕ) → AscendsFrom k ns → IsStrictlyIncreasing ns
unfolding AscendsFrom
increasing k [] h i below = absurd (omega arith)
increasing k (n ∷ []) h i below = absurd (omega arith)
increasing k (n ∷ m ∷ ms) h zero below = let e : n + 1 ≤ m = h.1.0 in omega arith
increasing k (n ∷ m ∷ ms) h (suc i) below =
    let rest : slice_index (m ∷ ms) i < slice_index (m ∷ ms) (i + 1) = increasing (n + 1) (m ∷ ms) h.1 i (omega arith) in
    let next : suc (i + 1) ≡ suc i + 1 = omega arith in
    subst (λ j. slice_index (m ∷ ms) i < slice_index (n ∷ m ∷ ms) j) next rest

pub increasing_rows : {A : Type 0} (same : A → A → Bool) (xs ys : List A) → IsStrictlyIncreasing (differ_from same 0 xs ys)
increasing_rows same xs ys = increasing 0 (differ_from same 0 xs ys) (ascends same 0 xs ys)

-- no row above the first is named
not_above : (row k : ℕ) (ns : List ℕ) → AscendsFrom k ns → row < k → list_any (nat_eq row) ns ≡ false
unfolding AscendsFrom
not_above row k [] h below = refl
not_above row k (n ∷ ns) h below =
    let from_here : k ≤ n = h.0 in
    let other : nat_eq row n ≡ false = grind (arith) in
    rw other (not_above row (n + 1) ns h.1 (omega arith))

-- the rows, counted from k, are those at which the lists differ
apart_from : {A : Type 0} (same : A → A → Bool) → ((x y : A) → Decides (same x y) (x ≡ y)) → (k : ℕ) (xs ys : List A) (row : ℕ) → length xs ≡ length ys
    → MatchBool (list_any (nat_eq (k + row)) (differ_from same k xs ys)) (slice_get xs row ≢ slice_get ys row) (slice_get xs row ≡ slice_get ys row)
apart_from same decides k [] [] row long = refl
apart_from same decides k [] (y ∷ ys) row long = absurd (omega arith)
apart_from same decides k (x ∷ xs) [] row long = absurd (omega arith)
apart_from same decides k (x ∷ xs) (y ∷ ys) zero long =
    by (same x y) (decides x y) (not_above (k + 0) (k + 1) (differ_from same (k + 1) xs ys) (ascends same (k + 1) xs ys) (omega arith))
  where
    by : (t : Bool) → Decides t (x ≡ y) → list_any (nat_eq (k + 0)) (differ_from same (k + 1) xs ys) ≡ false
        → MatchBool (list_any (nat_eq (k + 0)) (cond t [] (k ∷ []) ++ differ_from same (k + 1) xs ys)) (Some x ≢ Some y) (Some x ≡ Some y)
    by true told none = rw none (ap Some (told.0 refl))
    by false told none =
        let here : nat_eq (k + 0) k ≡ true = grind (arith) in
        rw here (λ e. let f : x ≡ y = cc in let g = told.1 f in cc)
apart_from same decides k (x ∷ xs) (y ∷ ys) (suc row) long = by (same x y) (apart_from same decides (k + 1) xs ys row (omega arith))
  where
    by : (t : Bool)
        → MatchBool (list_any (nat_eq (k + 1 + row)) (differ_from same (k + 1) xs ys)) (slice_get xs row ≢ slice_get ys row) (slice_get xs row ≡ slice_get ys row)
        → MatchBool (list_any (nat_eq (k + suc row)) (cond t [] (k ∷ []) ++ differ_from same (k + 1) xs ys)) (slice_get xs row ≢ slice_get ys row) (slice_get xs row ≡ slice_get ys row)
    by true rest = let e : k + suc row ≡ k + 1 + row = omega arith in rw e rest
    by false rest =
        let e : k + suc row ≡ k + 1 + row = omega arith in
        let other : nat_eq (k + suc row) k ≡ false = grind (arith) in
        let moved : MatchBool (list_any (nat_eq (k + suc row)) (differ_from same (k + 1) xs ys)) (slice_get xs row ≢ slice_get ys row)
        (slice_get xs row ≡ slice_get ys row) = rw e rest in
        rw other moved

pub rows_apart : {A : Type 0} (same : A → A → Bool) → ((x y : A) → Decides (same x y) (x ≡ y)) → (xs ys : List A) → length xs ≡ length ys
    → AreThoseApart (differ_from same 0 xs ys) xs ys
rows_apart same decides xs ys long row =
    let e : 0 + row ≡ row = omega arith in
    subst (λ r. MatchBool (list_any (nat_eq r) (differ_from same 0 xs ys)) (slice_get xs row ≢ slice_get ys row) (slice_get xs row ≡ slice_get ys row)) e
    (apart_from same decides 0 xs ys row long)

-- ids are the same where their bytes are
pub same_id-Decides : (a b : Id) → Decides (same_id a b) (a ≡ b)
same_id-Decides a b =
    let bytes = bytes_eq-Decides a.0 b.0 in
    (λ same. ap (λ (xs : List ℕ). record { 0 = xs }) (bytes.0 same), λ same. bytes.1 (ap (λ (x : Id). x.0) same))
