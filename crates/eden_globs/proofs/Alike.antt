-- When two filters are the same: where their patterns are.
use Rattle.std.proofs.Common.{◌≡◌, ℕ, List, [], ◌∷◌, ◌&&◌, refl, ap, ◌∙◌}
use Rattle.std.specs.Prelude.{nat_eq}
use Rattle.std.specs.Global.{Vec}
use Rattle.std.specs.Cmp.Lexicographic.{pointwise}
use Rattle.eden_globs.specs.Filters.{lists}

-- vectors are compared by what they hold
lists_compared : (a b : List (Vec ℕ)) → pointwise (λ v w. pointwise nat_eq v.items w.items) a b ≡ pointwise (pointwise nat_eq) (lists a) (lists b)
lists_compared [] [] = refl
lists_compared [] (w ∷ ws) = refl
lists_compared (v ∷ vs) [] = refl
lists_compared (v ∷ vs) (w ∷ ws) = ap (λ r. pointwise nat_eq v.items w.items && r) (lists_compared vs ws)

pub same_lists : (a b : List (Vec ℕ)) (ps qs : List (List ℕ)) → lists a ≡ ps → lists b ≡ qs → pointwise (λ v w. pointwise nat_eq v.items w.items) a b ≡ pointwise (pointwise nat_eq) ps qs
same_lists a b ps qs e f = lists_compared a b ∙ ap (λ xs. pointwise (pointwise nat_eq) xs (lists b)) e ∙ ap (pointwise (pointwise nat_eq) ps) f
