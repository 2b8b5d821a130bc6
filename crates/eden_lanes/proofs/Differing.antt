-- How the rows at which two lists differ grow with the lists.
use Rattle.std.proofs.Common.{◌≡◌, ℕ, suc, List, [], ◌∷◌, ◌++◌, length, get_or, take, refl, ap, sym, ◌∙◌, ◌+◌, ◌≤◌, ◌<◌, arith, Bool, true, cond, append_assoc}
use Rattle.std.specs.Simd.Lanes.{chunk}
use Rattle.std.specs.Cmp.Lexicographic.{pointwise}
use Rattle.std.proofs.lemmas.List.{append-nil, take_more, length-take-le}
use Rattle.std.proofs.Math.Seq.{take-add}
use Rattle.eden_lanes.specs.Rows.{differ_from}
use Rattle.std.proofs.lemmas.Bool.{and_parts}

-- more elements of each list
differ_from-append : {A : Type 0} (same : A → A → Bool) (k : ℕ) (xs ys us vs : List A) → length xs ≡ length ys
    → differ_from same k (xs ++ us) (ys ++ vs) ≡ differ_from same k xs ys ++ differ_from same (k + length xs) us vs
differ_from-append same k [] [] us vs long = let e : k ≡ k + 0 = omega arith in ap (λ n. differ_from same n us vs) e
differ_from-append same k [] (y ∷ ys) us vs long = absurd (omega arith)
differ_from-append same k (x ∷ xs) [] us vs long = absurd (omega arith)
differ_from-append same k (x ∷ xs) (y ∷ ys) us vs long =
    let place : k + 1 + length xs ≡ k + suc (length xs) = omega arith in
    let rest = differ_from-append same (k + 1) xs ys us vs (omega arith) in
    let head = cond (same x y) [] (k ∷ []) in
    ap (λ (ns : List ℕ). head ++ ns) (rest ∙ ap (λ n. differ_from same (k + 1) xs ys ++ differ_from same n us vs) place)
    ∙ sym (append_assoc head (differ_from same (k + 1) xs ys) (differ_from same (k + suc (length xs)) us vs))

-- the rows at which the first elements of two lists differ
abbrev pub among : {A : Type 0} → (A → A → Bool) → ℕ → List A → List A → List ℕ
among same n xs ys = differ_from same 0 (take n xs) (take n ys)

pub among-more : {A : Type 0} (same : A → A → Bool) (n m : ℕ) (xs ys : List A) → n ≤ length xs → n ≤ length ys
    → among same (n + m) xs ys ≡ among same n xs ys ++ differ_from same n (chunk n m xs) (chunk n m ys)
among-more same n m xs ys first second =
    let a = length-take-le n xs first in
    let b = length-take-le n ys second in
    let place : 0 + length (take n xs) ≡ n = omega arith in
    rw (take-add n m xs, take-add n m ys)
    (differ_from-append same 0 (take n xs) (take n ys) (chunk n m xs) (chunk n m ys) (omega arith)
    ∙ ap (λ k. among same n xs ys ++ differ_from same k (chunk n m xs) (chunk n m ys)) place)

-- one row more
pub among-one : {A : Type 0} (same : A → A → Bool) (n : ℕ) (xs ys : List A) (c d : A) → n < length xs → n < length ys
    → among same (n + 1) xs ys ≡ among same n xs ys ++ cond (same (get_or xs n c) (get_or ys n d)) [] (n ∷ [])
among-one same n xs ys c d first second =
    let a = length-take-le n xs (omega arith) in
    let b = length-take-le n ys (omega arith) in
    let place : 0 + length (take n xs) ≡ n = omega arith in
    rw (take_more xs n c first, take_more ys n d second)
    (differ_from-append same 0 (take n xs) (take n ys) (get_or xs n c ∷ []) (get_or ys n d ∷ []) (omega arith)
    ∙ ap (λ k. among same n xs ys ++ (cond (same (get_or xs n c) (get_or ys n d)) [] (k ∷ []) ++ [])) place
    ∙ ap (λ (ns : List ℕ). among same n xs ys ++ ns) (append-nil (cond (same (get_or xs n c) (get_or ys n d)) [] (n ∷ []))))

-- no row differs where all are the same
pub differ_from-same : {A : Type 0} (same : A → A → Bool) (k : ℕ) (us vs : List A) → pointwise same us vs ≡ true → differ_from same k us vs ≡ []
differ_from-same same k [] vs equal = refl
differ_from-same same k (u ∷ us) [] equal = refl
differ_from-same same k (u ∷ us) (v ∷ vs) equal =
    let both = and_parts (same u v) (pointwise same us vs) equal in
    rw both.0 (differ_from-same same (k + 1) us vs both.1)
