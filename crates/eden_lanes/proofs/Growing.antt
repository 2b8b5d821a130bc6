-- How the rows at which two columns of ids differ grow, one row or eight at a time.
use Rattle.std.proofs.Common.{◌≡◌, ℕ, zero, suc, List, [], ◌∷◌, ◌++◌, length, get_or, take, refl, ap, sym, ◌∙◌, ◌+◌, ◌*◌, ◌/◌, ◌%◌, ◌^◌, ◌≤◌, ◌<◌, arith, Bool, true, false, cond, nat_eq, length-append}
use Rattle.std.specs.Prelude.{count_ones}
use Rattle.std.specs.Simd.Lanes.{chunk, mask_l, zip2}
use Rattle.std.proofs.lemmas.List.{append-nil, length-take}
use Rattle.std.proofs.Math.Nat.{two-pow-succ}
use Rattle.std.proofs.lemmas.Simd.{bit_mask_l, get_or-chunk, get_or-zip2, length-chunk, ones-mask_l, ones-mask_l_cons}
use Rattle.eden_ids.specs.declared.id.Id.{Id}
use Rattle.eden_ids.specs.Columns.{id_of_words}
use Rattle.eden_ids.specs.Sameness.{same_id}
use Rattle.eden_lanes.specs.Rows.{differ_from, differing_ids}
use Rattle.eden_lanes.proofs.Differing.{among-more, among-one}

-- the rows at which the first ids of two columns differ
abbrev pub ids_among : ℕ → List Id → List Id → List ℕ
ids_among n a b = differing_ids (take n a) (take n b)

abbrev dull : Id
dull = id_of_words 0 0 0 0 0

-- whether the ids of a row are the same
abbrev pub same_at : ℕ → List Id → List Id → Bool
same_at n a b = same_id (get_or a n dull) (get_or b n dull)

pub next : (n : ℕ) (a b : List Id) (t : Bool) → n < length a → n < length b → ((d : Id) → t ≡ same_id (get_or a n d) (get_or b n d))
    → ids_among n a b ++ cond t [] (n ∷ []) ≡ ids_among (n + 1) a b
next n a b t first second is = rw (is dull) (sym (among-one same_id n a b dull dull first second))

-- eight rows, of which these are the same
abbrev pub bits_at : ℕ → List Id → List Id → ℕ
bits_at n a b = mask_l (zip2 same_id (chunk n 8 a) (chunk n 8 b))

-- a bit of the mask is that of its row
pub bit : (n place : ℕ) (a b : List Id) → place < 8 → n + 8 ≤ length a → n + 8 ≤ length b
    → (d : Id) → nat_eq (bits_at n a b / 2 ^ place % 2) 1 ≡ same_id (get_or a (n + place) d) (get_or b (n + place) d)
bit n place a b few first second d =
    let us = chunk n 8 a in
    let vs = chunk n 8 b in
    let x = length-chunk n 8 a first in
    let y = length-chunk n 8 b second in
    let row : get_or (zip2 same_id us vs) place false ≡ same_id (get_or a (n + place) d) (get_or b (n + place) d) =
    get_or-zip2 same_id us vs place d d false (omega arith) (omega arith) ∙ rw (get_or-chunk n 8 a place d few, get_or-chunk n 8 b place d few) refl in
    rw (bit_mask_l (zip2 same_id us vs) place, row) (one (same_id (get_or a (n + place) d) (get_or b (n + place) d)))
  where
    one : (t : Bool) → nat_eq (cond t 1 0) 1 ≡ t
    one true = refl
    one false = refl

-- no row differs where all bits are set
all_set : (k : ℕ) (us vs : List Id) → length us ≡ length vs → suc (mask_l (zip2 same_id us vs)) ≡ 2 ^ length us → differ_from same_id k us vs ≡ []
all_set k [] vs long set = refl
all_set k (u ∷ us) [] long set = absurd (omega arith)
all_set k (u ∷ us) (v ∷ vs) long set = by (same_id u v) set (λ e. all_set (k + 1) us vs (omega arith) e)
  where
    m : ℕ
    m = mask_l (zip2 same_id us vs)

    by : (t : Bool) → suc (cond t 1 0 + 2 * m) ≡ 2 ^ suc (length us) → (suc m ≡ 2 ^ length us → differ_from same_id (k + 1) us vs ≡ [])
        → cond t [] (k ∷ []) ++ differ_from same_id (k + 1) us vs ≡ []
    by true set rest = let p = two-pow-succ (length us) in rest (omega (arith, p, set))
    by false set rest = let p = two-pow-succ (length us) in absurd (omega (arith, p, set))

pub eight_same : (n : ℕ) (a b : List Id) → n + 8 ≤ length a → n + 8 ≤ length b → bits_at n a b ≡ 255 → ids_among n a b ≡ ids_among (n + 8) a b
eight_same n a b first second set =
    let x = length-chunk n 8 a first in
    let y = length-chunk n 8 b second in
    let all : suc (bits_at n a b) ≡ 2 ^ length (chunk n 8 a) = rw (set, x) refl in
    sym (among-more same_id n 8 a b (omega arith) (omega arith)
    ∙ rw (all_set n (chunk n 8 a) (chunk n 8 b) (omega arith) all) (append-nil (ids_among n a b)))

-- this many rows, from one on
abbrev rows_from : ℕ → ℕ → List ℕ
rows_from k zero = []
rows_from k (suc n) = k ∷ rows_from (k + 1) n

-- every row differs where no bit is set
none_set : (k : ℕ) (us vs : List Id) → length us ≡ length vs → mask_l (zip2 same_id us vs) ≡ 0 → differ_from same_id k us vs ≡ rows_from k (length us)
none_set k [] vs long set = refl
none_set k (u ∷ us) [] long set = absurd (omega arith)
none_set k (u ∷ us) (v ∷ vs) long set = by (same_id u v) set (λ e. none_set (k + 1) us vs (omega arith) e)
  where
    m : ℕ
    m = mask_l (zip2 same_id us vs)

    by : (t : Bool) → cond t 1 0 + 2 * m ≡ 0 → (m ≡ 0 → differ_from same_id (k + 1) us vs ≡ rows_from (k + 1) (length us))
        → cond t [] (k ∷ []) ++ differ_from same_id (k + 1) us vs ≡ k ∷ rows_from (k + 1) (length us)
    by true set rest = absurd (omega (arith, set))
    by false set rest = ap (λ (ns : List ℕ). k ∷ ns) (rest (omega (arith, set)))

eight_rows : (k : ℕ) → rows_from k 8 ≡ k ∷ (k + 1) ∷ (k + 2) ∷ (k + 3) ∷ (k + 4) ∷ (k + 5) ∷ (k + 6) ∷ (k + 7) ∷ []
eight_rows k = grind (arith)

pub eight_differ : (n : ℕ) (a b : List Id) → n + 8 ≤ length a → n + 8 ≤ length b → bits_at n a b ≡ 0
    → ids_among n a b ++ (n ∷ (n + 1) ∷ (n + 2) ∷ (n + 3) ∷ (n + 4) ∷ (n + 5) ∷ (n + 6) ∷ (n + 7) ∷ []) ≡ ids_among (n + 8) a b
eight_differ n a b first second clear =
    let x = length-chunk n 8 a first in
    let y = length-chunk n 8 b second in
    let rows : differ_from same_id n (chunk n 8 a) (chunk n 8 b) ≡ rows_from n 8 =
    none_set n (chunk n 8 a) (chunk n 8 b) (omega arith) clear ∙ ap (rows_from n) x in
    sym (among-more same_id n 8 a b (omega arith) (omega arith) ∙ ap (λ (ns : List ℕ). ids_among n a b ++ ns) (rows ∙ eight_rows n))

-- as many rows differ as bits are clear
ones : (k : ℕ) (us vs : List Id) → length us ≡ length vs
    → count_ones (mask_l (zip2 same_id us vs)) + length (differ_from same_id k us vs) ≡ length us
ones k [] [] long = let none = ones-mask_l (λ (x : ℕ). true) [] in omega (arith, none)
ones k [] (v ∷ vs) long = absurd (omega arith)
ones k (u ∷ us) [] long = absurd (omega arith)
ones k (u ∷ us) (v ∷ vs) long =
    by (same_id u v) (ones-mask_l_cons (same_id u v) (zip2 same_id us vs)) (ones (k + 1) us vs (omega arith))
  where
    m : ℕ
    m = mask_l (zip2 same_id us vs)

    by : (t : Bool) → count_ones (cond t 1 0 + 2 * m) ≡ cond t 1 0 + count_ones m
        → count_ones m + length (differ_from same_id (k + 1) us vs) ≡ length us
        → count_ones (cond t 1 0 + 2 * m) + length (cond t [] (k ∷ []) ++ differ_from same_id (k + 1) us vs) ≡ suc (length us)
    by true more rest = omega (arith, more, rest)
    by false more rest = omega (arith, more, rest)

pub count_of_eight : (n : ℕ) (a b : List Id) → n + 8 ≤ length a → n + 8 ≤ length b
    → count_ones (bits_at n a b) + length (differing_ids (chunk n 8 a) (chunk n 8 b)) ≡ 8
count_of_eight n a b first second =
    ones 0 (chunk n 8 a) (chunk n 8 b) (length-chunk n 8 a first ∙ sym (length-chunk n 8 b second)) ∙ length-chunk n 8 a first

pub count_eight_more : (n : ℕ) (a b : List Id) → n + 8 ≤ length a → n + 8 ≤ length b
    → length (ids_among n a b) + length (differing_ids (chunk n 8 a) (chunk n 8 b)) ≡ length (ids_among (n + 8) a b)
count_eight_more n a b first second =
    let x = length-chunk n 8 a first in
    let y = length-chunk n 8 b second in
    let here = ones n (chunk n 8 a) (chunk n 8 b) (omega arith) in
    let there = ones 0 (chunk n 8 a) (chunk n 8 b) (omega arith) in
    let more = ap length (among-more same_id n 8 a b (omega arith) (omega arith)) ∙ length-append (ids_among n a b) _ in
    omega (arith, here, there, more)

pub count_one_more : (n m : ℕ) (a b : List Id) (t : Bool) → n < length a → n < length b → ((d : Id) → t ≡ same_id (get_or a n d) (get_or b n d))
    → m ≡ cond t 0 1 → length (ids_among n a b) + m ≡ length (ids_among (n + 1) a b)
count_one_more n m a b t first second is one = by t one (ap length (next n a b t first second is))
  where
    by : (t : Bool) → m ≡ cond t 0 1 → length (ids_among n a b ++ cond t [] (n ∷ [])) ≡ length (ids_among (n + 1) a b)
        → length (ids_among n a b) + m ≡ length (ids_among (n + 1) a b)
    by true one more = let l = length-append (ids_among n a b) [] in omega (arith, l, more, one)
    by false one more = let l = length-append (ids_among n a b) (n ∷ []) in omega (arith, l, more, one)

-- no more rows differ than there are
short : (k : ℕ) (us vs : List Id) → length (differ_from same_id k us vs) ≤ length us
short k [] vs = omega arith
short k (u ∷ us) [] = omega arith
short k (u ∷ us) (v ∷ vs) = by (same_id u v) (short (k + 1) us vs)
  where
    by : (t : Bool) → length (differ_from same_id (k + 1) us vs) ≤ length us
        → length (cond t [] (k ∷ []) ++ differ_from same_id (k + 1) us vs) ≤ suc (length us)
    by true rest = omega (arith, rest)
    by false rest = omega (arith, rest)

pub length-ids_among : (n : ℕ) (a b : List Id) → length (ids_among n a b) ≤ n
length-ids_among n a b = let l = short 0 (take n a) (take n b) in let m = length-take n a in omega (arith, l, m)

pub ruleset grows = (next, bit, eight_same, eight_differ)

pub ruleset counts = (count_of_eight, count_eight_more)
