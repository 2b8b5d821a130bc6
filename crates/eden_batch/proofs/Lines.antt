-- Bytes up to the first line feed.
use Rattle.std.proofs.Common.{◌≡◌, ◌≢◌, ℕ, suc, min, true, ◌==◌, ◌+◌, ◌-◌, ◌<◌, ◌≤◌, inl, inr, List, [], ◌∷◌, ◌++◌, length, get_or, take, drop, refl, sym, ap, ◌∙◌, arith}
use Rattle.std.proofs.Math.Seq.{drop-cons}
use Rattle.std.proofs.lemmas.Bool.{cases_lt, eqb-true}
use Rattle.std.proofs.lemmas.List.{get_or-take, length-drop, length-take, take_all, take-append-le, take-append-drop}

-- no byte is a line feed
abbrev pub Unbroken : List ℕ → Type 0
Unbroken [] = Unit {0}
Unbroken (byte ∷ bytes) = (byte ≢ 10) × Unbroken bytes

pub unbroken_from : (bytes : List ℕ) → ((k : ℕ) → k < length bytes → get_or bytes k 0 ≢ 10) → Unbroken bytes
unbroken_from [] none = tt
unbroken_from (byte ∷ bytes) none = (none 0 (omega arith), unbroken_from bytes (λ k lt. none (suc k) (omega arith)))

-- the first line of some bytes is one alone
pub same_line : (line other behind more : List ℕ) → Unbroken line → Unbroken other → line ++ 10 ∷ behind ≡ other ++ 10 ∷ more → (line ≡ other) × (behind ≡ more)
same_line [] [] behind more a b e = (refl, cc)
same_line [] (o ∷ os) behind more a b e = absurd (b.0 (sym (ap (λ l. get_or l 0 0) e)))
same_line (l ∷ ls) [] behind more a b e = absurd (a.0 (ap (λ l. get_or l 0 0) e))
same_line (l ∷ ls) (o ∷ os) behind more a b e =
    let first : l ≡ o = cc in
    let rest : ls ++ 10 ∷ behind ≡ os ++ 10 ∷ more = cc in
    let both = same_line ls os behind more a.1 b.1 rest in
    (ap (λ x. x ∷ ls) first ∙ ap (λ xs. o ∷ xs) both.0, both.1)

-- what has no line feed is a front of the line that it begins
pub front_of_line : (front line rest more : List ℕ) → Unbroken front → front ++ rest ≡ line ++ 10 ∷ more → (length front ≤ length line) × (front ≡ take (length front) line)
front_of_line [] line rest more a e = (omega arith, refl)
front_of_line (f ∷ fs) [] rest more a e = absurd (a.0 (ap (λ l. get_or l 0 0) e))
front_of_line (f ∷ fs) (l ∷ ls) rest more a e =
    let first : f ≡ l = cc in
    let behind : fs ++ rest ≡ ls ++ 10 ∷ more = cc in
    let both = front_of_line fs ls rest more a.1 behind in
    (omega (arith, both.0), ap (λ x. x ∷ fs) first ∙ ap (λ xs. l ∷ xs) both.1)

-- as many bytes as there are of these many
pub front_is : (bytes : List ℕ) (most n : ℕ) → n ≡ min (length bytes) most → take n bytes ≡ take most bytes
front_is bytes most n e =
    elim (cases_lt (length bytes) most) [
      | inl l ↦ take_all n bytes (omega arith) ∙ sym (take_all most bytes (omega arith))
      | inr g ↦ ap (λ k. take k bytes) (omega arith)
    ]

-- all that is after a place
pub all_behind : (bytes : List ℕ) (n m : ℕ) → n ≡ m → take (length bytes - n) (drop n bytes) ≡ drop m bytes
all_behind bytes n m e = take_all (length bytes - n) (drop n bytes) (omega (arith, length-drop n bytes)) ∙ ap (λ k. drop k bytes) e

module _ (front : List ℕ) (end : ℕ) (within : end < length front) where
  -- the bytes before the first line feed
  pub line_unbroken : ((k : ℕ) → 0 ≤ k → k < end → (get_or front k 0 == 10) ≡ true → ⊥) → Unbroken (take end front)
  line_unbroken none =
      unbroken_from (take end front) (λ k lt e.
      let below : k < end = omega (arith, length-take end front) in
      none k (omega arith) below (ap (λ byte. byte == 10) (sym (get_or-take end front k 0 below) ∙ e)))

  -- what was read is the line, its line feed and the rest
  pub line_cut : (bytes : List ℕ) (most : ℕ) → front ≡ take most bytes → (get_or front end 0 == 10) ≡ true → bytes ≡ take end front ++ 10 ∷ drop (end + 1) bytes
  line_cut bytes most is feed =
      let inside : end < length bytes = omega (arith, ap length is, length-take most bytes) in
      let below : end < most = omega (arith, ap length is, length-take most bytes) in
      let same : take end front ≡ take end bytes =
      ap (take end) is ∙ sym (take-append-le end (take most bytes) (drop most bytes) (omega (arith, ap length is)))
      ∙ ap (take end) (take-append-drop most bytes) in
      let byte : get_or bytes end 0 ≡ 10 =
      sym (ap (λ l. get_or l end 0) is ∙ get_or-take most bytes end 0 below) ∙ eqb-true (get_or front end 0) 10 feed in
      let next : suc end ≡ end + 1 = omega arith in
      sym (take-append-drop end bytes) ∙ ap (λ l. take end bytes ++ l) (drop-cons bytes end 0 inside ∙ ap (λ b. b ∷ drop (suc end) bytes) byte)
      ∙ ap (λ l. l ++ 10 ∷ drop (suc end) bytes) (sym same) ∙ ap (λ k. take end front ++ 10 ∷ drop k bytes) next

pub unbroken : (front : List ℕ) → ((k : ℕ) → 0 ≤ k → k < length front → (get_or front k 0 == 10) ≡ true → ⊥) → Unbroken front
unbroken front none = unbroken_from front (λ k lt e. none k (omega arith) lt (ap (λ byte. byte == 10) e))
