-- A path is below another where it begins with it, and a slash comes next.
use Rattle.std.proofs.Common.{◌≡◌, ℕ, ◌&&◌, nat_eq, List, [], ◌∷◌, ◌++◌, length, drop, refl, ap, sym, ◌∙◌}
use Rattle.std.specs.List.{starts_with}
use Rattle.eden_ids.specs.Paths.{lies_below}
use Rattle.std.proofs.Math.Bool.{and_assoc}

pub starts_with-append : (xs top bs : List ℕ) → starts_with nat_eq xs (top ++ bs) ≡ (starts_with nat_eq xs top && starts_with nat_eq (drop (length top) xs) bs)
starts_with-append [] [] bs = refl
starts_with-append (x ∷ xs) [] bs = refl
starts_with-append [] (a ∷ top) bs = refl
starts_with-append (x ∷ xs) (a ∷ top) bs = ap (λ b. nat_eq a x && b) (starts_with-append xs top bs) ∙ sym (and_assoc (nat_eq a x) _ _)

pub below_in_steps : (path top : List ℕ) → lies_below path top ≡ (starts_with nat_eq path top && starts_with nat_eq (drop (length top) path) (47 ∷ []))
below_in_steps path top = starts_with-append path top (47 ∷ [])
