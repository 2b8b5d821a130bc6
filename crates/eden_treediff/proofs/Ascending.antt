-- The merge of two lists of files ascends in byte order.
use Rattle.std.proofs.Common.{◌≡◌, ℕ, Bool, true, false, cond, List, [], ◌∷◌, refl, sym, ap, subst, ◌∙◌}
use Rattle.std.specs.declared.cmp.Ordering.{Ordering}
use Rattle.std.specs.declared.cmp.Ordering.TheVariants.{Less, Equal, Greater}
use Rattle.std.specs.Ordering.{nat_cmp, ordering_reverse}
use Rattle.std.specs.Cmp.Lexicographic.{slice_cmp, nat_list_cmp_total}
use Rattle.std.specs.FinMap.Entries.{by_order}
use Rattle.std.specs.List.{AllByRecursion}
use Rattle.std.specs.List.Sorted.{IsStrictlySortedBy}
use Rattle.eden_objects.specs.Commits.{Row}
use Rattle.eden_objects.proofs.Rising.{IsBelow}
use Rattle.eden_treediff.specs.Merges.{merge_row, merge_rows, same_row}
use Rattle.eden_treediff.specs.Laws.{MergesRise, Rise}
use Rattle.eden_treediff.proofs.Blocks.{order}
use Rattle.eden_treediff.proofs.Exact.{below_more}
use Rattle.eden_ids.proofs.FileMapLemmas.{same_order}

abbrev Above : List ℕ → List (List ℕ) → Type 0
Above q ps = AllByRecursion (λ p. slice_cmp nat_cmp q p ≡ Less) ps

above_order : (q : List ℕ) (o : Ordering) (a b c : List (List ℕ)) → Above q a → Above q b → Above q c → Above q (by_order o a b c)
above_order q Less a b c h g k = h
above_order q Equal a b c h g k = g
above_order q Greater a b c h g k = k

above_cond : (q : List ℕ) (t : Bool) (a b : List (List ℕ)) → Above q a → Above q b → Above q (cond t a b)
above_cond q true a b h g = h
above_cond q false a b h g = g

above_step : (q : List ℕ) (r : Row) (rest : List Row → List (List ℕ)) → order q r.0 ≡ Less → ((zs : List Row) → IsBelow q zs → Above q (rest zs))
    → (ss : List Row) → IsBelow q ss → Above q (merge_row r rest ss)
above_step q r rest h more [] g = (h, more [] tt)
above_step q r rest h more (s ∷ ss) g =
    above_order q (order r.0 s.0) _ _ _ (h, more (s ∷ ss) g) (above_cond q (same_row r s) _ _ (more ss g.1) (h, more ss g.1)) (g.0, above_step q r rest h more ss g.1)

-- what is below both lists is below their merge
above_merge : (q : List ℕ) (rs ss : List Row) → IsBelow q rs → IsBelow q ss → Above q (merge_rows rs ss)
above_merge q [] ss h g = g
above_merge q (r ∷ rs) ss h g = above_step q r (merge_rows rs) h.0 (λ zs k. above_merge q rs zs h.1 k) ss g

rises_cond : (t : Bool) (a b : List (List ℕ)) → IsStrictlySortedBy (slice_cmp nat_cmp) a → IsStrictlySortedBy (slice_cmp nat_cmp) b → IsStrictlySortedBy (slice_cmp nat_cmp) (cond t a b)
rises_cond true a b h g = h
rises_cond false a b h g = g

rising_step : (r : Row) (rs : List Row) → IsBelow r.0 rs → ((zs : List Row) → Rise zs → IsStrictlySortedBy (slice_cmp nat_cmp) (merge_rows rs zs))
    → (ss : List Row) → Rise ss → IsStrictlySortedBy (slice_cmp nat_cmp) (merge_row r (merge_rows rs) ss)
unfolding IsStrictlySortedBy
rising_step r rs h rest [] rise = (above_merge r.0 rs [] h tt, rest [] tt)
rising_step r rs h rest (s ∷ ss) rise =
    elim (order r.0 s.0) as (λ o. order r.0 s.0 ≡ o
    → IsStrictlySortedBy (slice_cmp nat_cmp) (by_order o (r.0 ∷ merge_rows rs (s ∷ ss)) (cond (same_row r s) (merge_rows rs ss) (r.0 ∷ merge_rows rs ss)) (s.0 ∷ merge_row r (merge_rows rs) ss))) [
      | Less ↦ λ less. (above_merge r.0 rs (s ∷ ss) h (less, below_more r.0 s.0 ss less rise.0), rest (s ∷ ss) rise)
      | Equal ↦ λ same.
          let later : IsBelow r.0 ss = subst (λ p. IsBelow p ss) (sym (same_order r.0 s.0 same)) rise.0 in
          rises_cond (same_row r s) _ _ (rest ss rise.1) (above_merge r.0 rs ss h later, rest ss rise.1)
      | Greater ↦ λ above.
          let less : order s.0 r.0 ≡ Less = nat_list_cmp_total.antisymm s.0 r.0 ∙ ap ordering_reverse above in
          (above_merge s.0 (r ∷ rs) ss (less, below_more s.0 r.0 rs less h) rise.0, rising_step r rs h rest ss rise.1)
    ] refl

pub ascending_law : MergesRise
unfolding IsStrictlySortedBy
ascending_law [] ss rise rises = rises
ascending_law (r ∷ rs) ss rise rises = rising_step r rs rise.0 (λ zs h. ascending_law rs zs rise.1 h) ss rises
