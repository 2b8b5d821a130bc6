-- The components of bytes, one at a time.
use Rattle.std.proofs.Common.{◌≡◌, ℕ, suc, zero, ◌+◌, ◌-◌, ◌<◌, true, false, cond, nat_eq, List, [], ◌∷◌, take, drop, length, refl, sym, ap, ◌∙◌, arith, add-one}
use Rattle.std.proofs.lemmas.List.{length-drop, take_all}
use Rattle.std.specs.List.{onto_first, slice_index_or}
use Rattle.eden_ids.specs.Paths.{components}

pub here : (b : ℕ) (bytes : List ℕ) → nat_eq b 47 ≡ true → components (b ∷ bytes) ≡ [] ∷ components bytes
here b bytes e = ap (λ c. cond c ([] ∷ components bytes) (onto_first b (components bytes))) e

pub later : (b : ℕ) (bytes : List ℕ) → nat_eq b 47 ≡ false → components (b ∷ bytes) ≡ onto_first b (components bytes)
later b bytes e = ap (λ c. cond c ([] ∷ components bytes) (onto_first b (components bytes))) e

pub drop_none : {X : Type 0} (xs : List X) → drop 0 xs ≡ xs
drop_none [] = refl
drop_none (x ∷ xs) = refl

-- the first component ends at the first slash
pub first_slash : (bytes : List ℕ) (at : ℕ) → at < length bytes → ((i : ℕ) → i < at → nat_eq (slice_index_or bytes i 0) 47 ≡ false) → nat_eq (slice_index_or bytes at 0) 47 ≡ true
    → components bytes ≡ take at bytes ∷ components (drop (suc at) bytes)
first_slash [] at within none is = absurd (omega arith)
first_slash (b ∷ bytes) zero within none is = here b bytes is ∙ ap (λ bs. [] ∷ components bs) (sym (drop_none bytes))
first_slash (b ∷ bytes) (suc at) within none is =
    later b bytes (none 0 (omega arith)) ∙ ap (onto_first b) (first_slash bytes at (omega arith) (λ i low. none (suc i) (omega arith)) is)

-- the bytes after the first slash
pub behind_slash : (bytes : List ℕ) (at : ℕ) → at < length bytes → ((i : ℕ) → i < at → nat_eq (slice_index_or bytes i 0) 47 ≡ false) → nat_eq (slice_index_or bytes at 0) 47 ≡ true
    → components bytes ≡ take at bytes ∷ components (take (length bytes - (at + 1)) (drop (at + 1) bytes))
behind_slash bytes at within none is =
    first_slash bytes at within none is
    ∙ ap (λ n. take at bytes ∷ components (drop n bytes)) (sym (add-one at))
    ∙ ap (λ bs. take at bytes ∷ components bs) (sym (take_all (length bytes - (at + 1)) (drop (at + 1) bytes) (omega (arith, length-drop (at + 1) bytes))))

-- without a slash there is one component
pub no_slash : (bytes : List ℕ) → ((i : ℕ) → i < length bytes → nat_eq (slice_index_or bytes i 0) 47 ≡ false) → components bytes ≡ bytes ∷ []
no_slash [] none = refl
no_slash (b ∷ bytes) none = later b bytes (none 0 (omega arith)) ∙ ap (onto_first b) (no_slash bytes (λ i low. none (suc i) (omega arith)))
