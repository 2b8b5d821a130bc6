-- Reading one after the other, as a loop does.
use Rattle.std.proofs.Common.{◌≡◌, ◌≢◌, ℕ, suc, ◌-◌, ◌+◌, ◌≤◌, ◌<◌, Bool, List, [], ◌∷◌, ◌++◌, Option, Some, Result, Ok, Err, refl, sym, ap, ◌∙◌, append_assoc, length, arith}
use Rattle.std.proofs.lemmas.List.{append-nil, length-append}
use Rattle.std.proofs.lemmas.Option.{slice_get-get_or}
use Rattle.std.proofs.Math.Seq.{get_or-append_seam}
use Rattle.eden_wire.specs.declared.fault.DecodeFault.{DecodeFault}
use Rattle.eden_wire.specs.declared.fault.DecodeFault.TheVariants.{NoMemory}
use Rattle.eden_wire.specs.Formats.{◌>>=◌, Format, only, items_at}
use Rattle.eden_wire.specs.internal.Listing.{last_item}

-- what was read before, and what is still read
abbrev pub with_front : {X : Type 0} → List X → Result (List X × List ℕ) DecodeFault → Result (List X × List ℕ) DecodeFault
with_front front read = read >>= λ x. Ok (front ++ x.0, x.1)

regroup : {X : Type 0} (front : List X) (x : X) (read : Result (List X × List ℕ) DecodeFault)
    → with_front front (read >>= λ others. Ok (x ∷ others.0, others.1)) ≡ with_front (front ++ x ∷ []) read
regroup front x (Ok others) = ap (λ xs. Ok (xs, others.1)) (simp append_assoc)
regroup front x (Err fault) = refl

pub last-push : {A : Type 0} (front : List A) (x : A) → last_item (front ++ x ∷ []) ≡ Some x
last-push front x =
    let n : length (front ++ x ∷ []) - 1 ≡ length front = simp length-append (omega arith) in
    rw (n, slice_get-get_or (front ++ x ∷ []) (length front) x (simp length-append (omega arith)), get_or-append_seam front x [] x) refl

module _ {A : Type 0} (item : Format A) (may : Option A → A → Bool) (front : List A) (count i : ℕ) (bytes : List ℕ) (total : Result (List A × List ℕ) DecodeFault) where
  pub items_go_on : (x : A) (after : List ℕ) → i < count → (only item (λ y. may (last_item front) y)).read bytes ≡ Ok (x, after)
      → with_front front (items_at item may (count - i) (last_item front) bytes) ≡ total
      → with_front (front ++ x ∷ []) (items_at item may (count - (i + 1)) (last_item (front ++ x ∷ [])) after) ≡ total
  unfolding items_at
  items_go_on x after more read so_far =
      let k : count - i ≡ suc (count - (i + 1)) = omega arith in
      let one : with_front front (items_at item may (count - i) (last_item front) bytes) ≡ with_front (front ++ x ∷ []) (items_at item may (count - (i + 1)) (Some x) after) =
      rw (k, read) (regroup front x (items_at item may (count - (i + 1)) (Some x) after)) in
      ap (λ (l : Option A). with_front (front ++ x ∷ []) (items_at item may (count - (i + 1)) l after)) (last-push front x) ∙ (sym one ∙ so_far)

  pub items_end : (fault : DecodeFault) → i < count → (fault ≢ NoMemory → (only item (λ y. may (last_item front) y)).read bytes ≡ Err fault)
      → with_front front (items_at item may (count - i) (last_item front) bytes) ≡ total → fault ≢ NoMemory → total ≡ Err fault
  unfolding items_at
  items_end fault more read so_far told =
      let k : count - i ≡ suc (count - (i + 1)) = omega arith in
      let e = read told in
      let one : with_front front (items_at item may (count - i) (last_item front) bytes) ≡ Err fault = rw (k, e) refl in
      sym so_far ∙ one

  pub items_done : count ≤ i → with_front front (items_at item may (count - i) (last_item front) bytes) ≡ total → total ≡ Ok (front, bytes)
  unfolding items_at
  items_done none so_far =
      let k : count - i ≡ 0 = omega arith in
      let one : with_front front (items_at item may (count - i) (last_item front) bytes) ≡ Ok (front, bytes) =
      rw k (ap (λ (xs : List A). Ok (xs, bytes)) (append-nil front)) in
      sym so_far ∙ one

-- an item of a list in any order
pub in_any_place : {A : Type 0} (read : Result (A × List ℕ) DecodeFault) → (read >>= λ x. Ok x) ≡ read
in_any_place (Ok x) = refl
in_any_place (Err fault) = refl
