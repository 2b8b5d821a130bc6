-- How the rows at which two columns of kinds differ grow with the columns, and what a comparison of thirty-two kinds gives.
use Rattle.std.proofs.Common.{◌≡◌, ℕ, List, [], ◌∷◌, length, map, take, refl, ap, ◌∙◌, ◌+◌, ◌*◌, ◌≤◌, ◌%◌, ◌^◌, arith, Bool, true, false, cond, nat_eq, not, ◌&&◌, w8}
use Rattle.std.specs.Simd.Lanes.{chunk, mask_l, top, zip2}
use Rattle.std.specs.Cmp.Lexicographic.{pointwise}
use Rattle.std.proofs.lemmas.List.{append-nil}
use Rattle.std.proofs.lemmas.Simd.{length-zip2, mask_l-mod, tops_compared}
use Rattle.eden_lanes.specs.Rows.{differing_kinds}
use Rattle.eden_lanes.proofs.Differing.{among-more, differ_from-same}

-- the rows at which the first kinds of two columns differ
abbrev pub kinds_among : ℕ → List ℕ → List ℕ → List ℕ
kinds_among n a b = differing_kinds (take n a) (take n b)

-- the next thirty-two kinds are the same
pub kinds-many_same : (n : ℕ) (a b : List ℕ) → n + 32 ≤ length a → n + 32 ≤ length b → pointwise nat_eq (chunk n 32 a) (chunk n 32 b) ≡ true
    → kinds_among (n + 32) a b ≡ kinds_among n a b
kinds-many_same n a b first second same =
    among-more nat_eq n 32 a b (omega arith) (omega arith) ∙ rw (differ_from-same nat_eq n (chunk n 32 a) (chunk n 32 b) same) (append-nil (kinds_among n a b))

pub ruleset next_kinds = (kinds-many_same)

abbrev apart : ℕ → ℕ → Bool
apart x y = not (nat_eq x y)

twice_none : (m : ℕ) → nat_eq (0 + 2 * m) 0 ≡ nat_eq m 0
twice_none m = grind (arith)

one_more_some : (m : ℕ) → nat_eq (1 + 2 * m) 0 ≡ false
one_more_some m = grind (arith)

-- no bit is set exactly if the lanes are the same
mask_none : (xs ys : List ℕ) → length xs ≡ length ys → nat_eq (mask_l (zip2 apart xs ys)) 0 ≡ pointwise nat_eq xs ys
mask_none [] [] long = refl
mask_none [] (y ∷ ys) long = absurd (omega arith)
mask_none (x ∷ xs) [] long = absurd (omega arith)
mask_none (x ∷ xs) (y ∷ ys) long = by (nat_eq x y) (mask_none xs ys (omega arith))
  where
    by : (t : Bool) → nat_eq (mask_l (zip2 apart xs ys)) 0 ≡ pointwise nat_eq xs ys
        → nat_eq (cond (not t) 1 0 + 2 * mask_l (zip2 apart xs ys)) 0 ≡ (t && pointwise nat_eq xs ys)
    by true rest = twice_none (mask_l (zip2 apart xs ys)) ∙ rest
    by false rest = one_more_some (mask_l (zip2 apart xs ys))

-- what `==` of two vectors gives
pub vectors_same : (xs ys : List ℕ) → length xs ≡ length ys → length xs ≤ 64
    → nat_eq (mask_l (map (top 7) (zip2 (λ a b. cond (apart a b) 255 0) xs ys)) % 18446744073709551616) 0 ≡ pointwise nat_eq xs ys
vectors_same xs ys long short =
    ap (λ (ms : List Bool). nat_eq (mask_l ms % 2 ^ 64) 0) (tops_compared w8 apart xs ys)
    ∙ ap (λ n. nat_eq n 0) (mask_l-mod (zip2 apart xs ys) 64 (let e = length-zip2 apart xs ys long in omega arith))
    ∙ mask_none xs ys long
