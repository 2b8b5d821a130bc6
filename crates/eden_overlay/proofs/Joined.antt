-- The components of a path that is made of two, with a slash between them.
use Rattle.std.proofs.Common.{◌≡◌, ℕ, ◌<◌, Bool, true, false, not, ◌&&◌, nat_eq, nat_lt, List, [], ◌∷◌, ◌++◌, length, Option, Some, None, refl, sym, ap, ◌∙◌, arith}
use Rattle.std.specs.Prelude.{◌==◌, if◌then◌else◌}
use Rattle.std.specs.List.{list_all, onto_first}
use Rattle.std.proofs.lemmas.List.Folds.{list_all-append}
use Rattle.std.proofs.lemmas.List.Splits.{length-slice_split, slice_split-cons_no, slice_split-cons_yes}
use Rattle.eden_ids.specs.declared.path.PathFault.{PathFault}
use Rattle.eden_ids.specs.declared.path.PathFault.TheVariants.{Empty, TooLong, BadComponent}
use Rattle.eden_ids.specs.Paths.{IsPath, components, is_component}

pub no_fault : (b : Bool) (fault : PathFault) (rest : Option PathFault) → (if b then Some fault else rest) ≡ None → (b ≡ false) × (rest ≡ None)
no_fault true fault rest e = let bad : ◌≡◌ {A = Option PathFault} (Some fault) None = e in cc
no_fault false fault rest e = (refl, e)

pub unless : (b : Bool) → not b ≡ false → b ≡ true
unless true e = refl
unless false e = let bad : true ≡ false = e in cc

-- a path has a byte at least, and names alone
pub names_alone : (p : List ℕ) → IsPath p → list_all is_component (components p) ≡ true
names_alone p is =
    let filled = no_fault (nat_eq (length p) 0) Empty _ is in
    let short = no_fault (nat_lt 1024 (length p)) TooLong _ filled.1 in
    unless (list_all is_component (components p)) (no_fault (not (list_all is_component (components p))) BadComponent _ short.1).0

pub and_both : (a b : Bool) → (a && b) ≡ true → (a ≡ true) × (b ≡ true)
and_both true true e = (refl, refl)
and_both true false e = let bad : false ≡ true = e in cc
and_both false b e = let bad : false ≡ true = e in cc

onto_both : (b : ℕ) (ps qs : List (List ℕ)) → 0 < length ps → onto_first b (ps ++ qs) ≡ onto_first b ps ++ qs
onto_both b [] qs some = absurd (omega arith)
onto_both b (p ∷ ps) qs some = refl

-- the components on both sides of a slash
pub parts_joined : (top rest : List ℕ) → components (top ++ 47 ∷ rest) ≡ components top ++ components rest
parts_joined [] rest = refl
parts_joined (b ∷ top) rest = by (b == 47) refl (parts_joined top rest)
  where
    by : (slash : Bool) → (b == 47) ≡ slash → components (top ++ 47 ∷ rest) ≡ components top ++ components rest
        → components (b ∷ (top ++ 47 ∷ rest)) ≡ components (b ∷ top) ++ components rest
    by true e more =
        slice_split-cons_yes (λ c. c == 47) b (top ++ 47 ∷ rest) e ∙ ap (λ ps. [] ∷ ps) more
        ∙ sym (ap (λ ps. ps ++ components rest) (slice_split-cons_yes (λ c. c == 47) b top e))
    by false e more =
        let some : 0 < length (components top) = omega (arith, length-slice_split (λ c. c == 47) top) in
        slice_split-cons_no (λ c. c == 47) b (top ++ 47 ∷ rest) e ∙ ap (onto_first b) more ∙ onto_both b (components top) (components rest) some
        ∙ sym (ap (λ ps. ps ++ components rest) (slice_split-cons_no (λ c. c == 47) b top e))

-- names alone on both sides of a slash
pub names_joined : (top rest : List ℕ) → list_all is_component (components (top ++ 47 ∷ rest))
    ≡ (list_all is_component (components top) && list_all is_component (components rest))
names_joined top rest = ap (list_all is_component) (parts_joined top rest) ∙ list_all-append is_component (components top) (components rest)
