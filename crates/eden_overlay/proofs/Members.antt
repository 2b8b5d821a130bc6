-- What holds of each element of a list holds of each of those after the first ones.
use Rattle.std.proofs.Common.{ℕ, suc, zero, List, [], ◌∷◌, drop}
use Rattle.std.specs.List.{AllByRecursion}

module _ {A : Type 0} (P : A → Type 0) where
  pub all_left : (n : ℕ) (xs : List A) → AllByRecursion P xs → AllByRecursion P (drop n xs)
  all_left zero [] h = tt
  all_left (suc n) [] h = tt
  all_left zero (x ∷ xs) h = h
  all_left (suc n) (x ∷ xs) h = all_left n xs h.1
