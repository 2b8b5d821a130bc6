-- Where a path is among paths in byte order.
use Rattle.std.proofs.Common.{◌≡◌, ℕ, suc, zero, ◌<◌, ◌≤◌, true, false, ◌||◌, List, [], ◌∷◌, map, length, refl, sym, ap, subst, ◌∙◌, arith}
use Rattle.std.specs.declared.cmp.Ordering.{Ordering}
use Rattle.std.specs.declared.cmp.Ordering.TheVariants.{Less, Equal, Greater}
use Rattle.std.specs.Ordering.{is_lt, is_eq, ordering_reverse}
use Rattle.std.specs.Cmp.Lexicographic.{nat_list_cmp_total}
use Rattle.std.specs.List.{AllByRecursion, list_any, slice_index_or}
use Rattle.std.specs.List.Sorted.{IsPartitionedBy, IsStrictlySortedBy}
use Rattle.eden_ids.specs.FileMaps.{same_path}
use Rattle.eden_ids.specs.Sameness.{same_bytes}
use Rattle.eden_ids.proofs.ByteOrder.{IsPlaceOf, is_less, order, parted}
use Rattle.eden_ids.proofs.FileMapLemmas.{same_path-bytes, same_path-turned}
use Rattle.std.proofs.Math.Bool.{or-false}

pub each_itself : (ps : List (List ℕ)) → map (λ p. p) ps ≡ ps
each_itself [] = refl
each_itself (p ∷ ps) = ap (λ rest. p ∷ rest) (each_itself ps)

pub paths_parted : (k : List ℕ) (ps : List (List ℕ)) → IsStrictlySortedBy order ps → IsPartitionedBy (λ p. is_lt (order p k)) ps
paths_parted k ps rise = parted (λ p. p) k ps (subst (IsStrictlySortedBy order) (sym (each_itself ps)) rise)

-- a path is not among those that come after it
none_after : (k : List ℕ) (ps : List (List ℕ)) → AllByRecursion (λ p. order k p ≡ Less) ps → list_any (λ p. same_path k p) ps ≡ false
none_after k [] after = refl
none_after k (p ∷ ps) after = ap (λ o. is_eq o || list_any (λ q. same_path k q) ps) after.0 ∙ none_after k ps after.1

after_all : (k p : List ℕ) (ps : List (List ℕ)) → order k p ≡ Less → AllByRecursion (λ q. order p q ≡ Less) ps → AllByRecursion (λ q. order k q ≡ Less) ps
after_all k p [] before after = tt
after_all k p (q ∷ ps) before after = (nat_list_cmp_total.trans k p q before after.0, after_all k p ps before after.1)

-- a path is not one that comes before it
not_before : (k p : List ℕ) → is_lt (order p k) ≡ true → same_path k p ≡ false
not_before k p before = ap is_eq (nat_list_cmp_total.antisymm k p ∙ ap ordering_reverse (is_less (order p k) before))

later : (k p : List ℕ) (ps : List (List ℕ)) (i : ℕ) → IsPlaceOf (λ p. p) k (p ∷ ps) (suc i) → IsPlaceOf (λ p. p) k ps i
later k p ps i point = ((λ j d low high. point.0 (suc j) d (omega arith) (omega arith)), (λ j d low high. point.1 (suc j) d (omega arith) (omega arith)))

-- if the path's place is within the list, it is listed if it is there
pub listed_at : (k : List ℕ) (ps : List (List ℕ)) (i : ℕ) (d : List ℕ) → IsStrictlySortedBy order ps → IsPlaceOf (λ p. p) k ps i → i < length ps
    → list_any (λ p. same_path k p) ps ≡ same_path k (slice_index_or ps i d)
unfolding IsStrictlySortedBy
listed_at k [] i d rise point within = absurd (omega arith)
listed_at k (p ∷ ps) zero d rise point within = by (order k p) refl
  where
    by : (o : Ordering) → order k p ≡ o → (same_path k p || list_any (λ q. same_path k q) ps) ≡ same_path k p
    by Less e = ap (λ b. same_path k p || b) (none_after k ps (after_all k p ps e rise.0)) ∙ or-false (same_path k p)
    by Equal e = ap (λ o. is_eq o || list_any (λ q. same_path k q) ps) e ∙ sym (ap is_eq e)
    by Greater e =
        let before : is_lt (order p k) ≡ true = ap is_lt (nat_list_cmp_total.antisymm p k ∙ ap ordering_reverse e) in
        absurd (let bad : true ≡ false = sym before ∙ point.1 0 p (omega arith) (omega arith) in cc)
listed_at k (p ∷ ps) (suc i) d rise point within =
    ap (λ b. b || list_any (λ q. same_path k q) ps) (not_before k p (point.0 0 p (omega arith) (omega arith)))
    ∙ listed_at k ps i d rise.1 (later k p ps i point) (omega arith)

-- if its place is after the list, it is not listed
pub listed_nowhere : (k : List ℕ) (ps : List (List ℕ)) (i : ℕ) → IsPlaceOf (λ p. p) k ps i → length ps ≤ i → list_any (λ p. same_path k p) ps ≡ false
listed_nowhere k [] i point behind = refl
listed_nowhere k (p ∷ ps) zero point behind = absurd (omega arith)
listed_nowhere k (p ∷ ps) (suc i) point behind =
    ap (λ b. b || list_any (λ q. same_path k q) ps) (not_before k p (point.0 0 p (omega arith) (omega arith)))
    ∙ listed_nowhere k ps i (later k p ps i point) (omega arith)

-- the same as a comparison of bytes has it
pub listed_there : (k : List ℕ) (ps : List (List ℕ)) (i : ℕ) (p : List ℕ) → IsStrictlySortedBy order ps → IsPlaceOf (λ p. p) k ps i → i < length ps → p ≡ slice_index_or ps i p
    → same_bytes p k ≡ list_any (λ q. same_path k q) ps
listed_there k ps i p rise point within is =
    sym (same_path-bytes p k) ∙ same_path-turned p k ∙ ap (same_path k) is ∙ sym (listed_at k ps i p rise point within)
