-- Paths are in the order of their first eight bytes as a number, and then in that of all of them.
use Rattle.std.proofs.Common.{◌≡◌, ℕ, suc, zero, ◌+◌, ◌*◌, ◌<◌, inl, inr, List, [], ◌∷◌, refl, sym, ap, ◌∙◌, arith}
use Rattle.std.specs.Int.{from_be_bytes, w64}
use Rattle.std.specs.List.{slice_index}
use Rattle.std.specs.declared.cmp.Ordering.TheVariants.{Less, Equal, Greater}
use Rattle.std.specs.Ordering.{nat_cmp, ordering_then}
use Rattle.std.specs.Cmp.{nat_cmp_is}
use Rattle.std.proofs.lemmas.Bool.{cases_order}
use Rattle.std.proofs.lemmas.Nat.{mul-add-lt}
use Rattle.std.proofs.Math.Nat.{mul_comm}
use Rattle.eden_ids.specs.Texts.{AreBytes}
use Rattle.eden_ids.proofs.ByteOrder.{order}
use Rattle.eden_ranges.specs.internal.Heads.{head_from, worth}

-- ---- the number

-- read from eight bytes, with 0 for each missing one
pub head_read : (bs : List ℕ)
    → from_be_bytes w64 (slice_index bs 0 ∷ slice_index bs 1 ∷ slice_index bs 2 ∷ slice_index bs 3 ∷ slice_index bs 4 ∷ slice_index bs 5 ∷ slice_index bs 6 ∷ slice_index bs 7 ∷ [])
    ≡ head_from 8 bs
head_read [] = omega arith
head_read (a ∷ []) = omega arith
head_read (a ∷ b ∷ []) = omega arith
head_read (a ∷ b ∷ c ∷ []) = omega arith
head_read (a ∷ b ∷ c ∷ d ∷ []) = omega arith
head_read (a ∷ b ∷ c ∷ d ∷ e ∷ []) = omega arith
head_read (a ∷ b ∷ c ∷ d ∷ e ∷ f ∷ []) = omega arith
head_read (a ∷ b ∷ c ∷ d ∷ e ∷ f ∷ g ∷ []) = omega arith
head_read (a ∷ b ∷ c ∷ d ∷ e ∷ f ∷ g ∷ h ∷ more) = omega arith

worth-positive : (n : ℕ) → 0 < worth n
worth-positive zero = omega arith
worth-positive (suc n) = let more = worth-positive n in omega arith

head-below : (n : ℕ) (bs : List ℕ) → AreBytes bs → head_from n bs < worth n
head-below zero bs small = omega arith
head-below (suc n) [] small = worth-positive (suc n)
head-below (suc n) (b ∷ bs) small = mul-add-lt b (worth n) (head_from n bs) 256 small.0 (head-below n bs small.1)

-- ---- the order

-- a lower first byte makes a lower number
lower : (x y w a b : ℕ) → x < y → a < w → x * w + a < y * w + b
lower x y w a b less fits = let low = mul-add-lt x w a y less fits in let turned = mul_comm w y in omega arith

nothing_above : (m : ℕ) → ordering_then (nat_cmp 0 m) Less ≡ Less
nothing_above m = elim (cases_order 0 m) [
  | inl same ↦ ap (λ o. ordering_then o Less) (sym (nat_cmp_is 0 m Equal same))
  | inr (inl less) ↦ ap (λ o. ordering_then o Less) (sym (nat_cmp_is 0 m Less less))
  | inr (inr more) ↦ absurd (omega arith)
]

nothing_below : (m : ℕ) → ordering_then (nat_cmp m 0) Greater ≡ Greater
nothing_below m = elim (cases_order m 0) [
  | inl same ↦ ap (λ o. ordering_then o Greater) (sym (nat_cmp_is m 0 Equal same))
  | inr (inl less) ↦ absurd (omega arith)
  | inr (inr more) ↦ ap (λ o. ordering_then o Greater) (sym (nat_cmp_is m 0 Greater more))
]

moved : (k a b : ℕ) → nat_cmp (k + a) (k + b) ≡ nat_cmp a b
moved k a b = elim (cases_order a b) [
  | inl same ↦ sym (nat_cmp_is (k + a) (k + b) Equal (ap (λ n. k + n) same)) ∙ nat_cmp_is a b Equal same
  | inr (inl less) ↦ sym (nat_cmp_is (k + a) (k + b) Less (omega arith)) ∙ nat_cmp_is a b Less less
  | inr (inr more) ↦ sym (nat_cmp_is (k + a) (k + b) Greater (omega arith)) ∙ nat_cmp_is a b Greater more
]

-- the first n bytes as a number decide only what all bytes decide
pub heads_agree : (n : ℕ) (p q : List ℕ) → AreBytes p → AreBytes q → ordering_then (nat_cmp (head_from n p) (head_from n q)) (order p q) ≡ order p q
heads_agree zero p q small fits = refl
heads_agree (suc n) [] [] small fits = refl
heads_agree (suc n) [] (y ∷ ys) small fits = nothing_above (y * worth n + head_from n ys)
heads_agree (suc n) (x ∷ xs) [] small fits = nothing_below (x * worth n + head_from n xs)
heads_agree (suc n) (x ∷ xs) (y ∷ ys) small fits = elim (cases_order x y) [
  | inl same ↦
      let heads : nat_cmp (x * worth n + head_from n xs) (y * worth n + head_from n ys) ≡ nat_cmp (head_from n xs) (head_from n ys) =
      ap (λ z. nat_cmp (x * worth n + head_from n xs) (z * worth n + head_from n ys)) (sym same) ∙ moved (x * worth n) (head_from n xs) (head_from n ys) in
      let tied = sym (nat_cmp_is x y Equal same) in
      (λ i. ordering_then (heads i) (ordering_then (tied i) (order xs ys)))
      ∙ heads_agree n xs ys small.1 fits.1
      ∙ sym (ap (λ o. ordering_then o (order xs ys)) tied)
  | inr (inl less) ↦
      let heads = sym (nat_cmp_is (x * worth n + head_from n xs) (y * worth n + head_from n ys) Less (lower x y (worth n) (head_from n xs) (head_from n ys) less (head-below n xs small.1))) in
      let first = sym (nat_cmp_is x y Less less) in
      (λ i. ordering_then (heads i) (ordering_then (first i) (order xs ys))) ∙ sym (ap (λ o. ordering_then o (order xs ys)) first)
  | inr (inr more) ↦
      let heads = sym (nat_cmp_is (x * worth n + head_from n xs) (y * worth n + head_from n ys) Greater (lower y x (worth n) (head_from n ys) (head_from n xs) more (head-below n ys fits.1))) in
      let first = sym (nat_cmp_is x y Greater more) in
      (λ i. ordering_then (heads i) (ordering_then (first i) (order xs ys))) ∙ sym (ap (λ o. ordering_then o (order xs ys)) first)
]
