-- The merge of two lists of files, block by block.
use Rattle.std.proofs.Common.{◌≡◌, ℕ, ◌++◌, Bool, true, false, cond, List, [], ◌∷◌, map, refl, sym, ap, ◌∙◌, append_assoc}
use Rattle.std.specs.declared.cmp.Ordering.{Ordering}
use Rattle.std.specs.declared.cmp.Ordering.TheVariants.{Less, Equal, Greater}
use Rattle.std.specs.Ordering.{nat_cmp, ordering_reverse}
use Rattle.std.specs.Cmp.Lexicographic.{slice_cmp, nat_list_cmp_total}
use Rattle.std.specs.FinMap.Entries.{by_order}
use Rattle.std.specs.List.{AllByRecursion}
use Rattle.eden_objects.specs.Commits.{Row, under}
use Rattle.eden_objects.proofs.Rising.{IsBelow, prefix}
use Rattle.eden_treediff.specs.Merges.{merge_row, merge_rows, paths_of, same_row}

abbrev pub order : List ℕ → List ℕ → Ordering
order = slice_cmp nat_cmp

-- each row of the first list is below all of the second
abbrev pub AllBelow : List Row → List Row → Type 0
AllBelow xs ys = AllByRecursion (λ x. IsBelow x.0 ys) xs

pub turned : (p q : List ℕ) → order p q ≡ Less → order q p ≡ Greater
turned p q h = nat_list_cmp_total.antisymm q p ∙ ap ordering_reverse h

order_parts : (o : Ordering) (a b c d e f more : List (List ℕ)) → a ≡ d ++ more → b ≡ e ++ more → c ≡ f ++ more → by_order o a b c ≡ by_order o d e f ++ more
order_parts Less a b c d e f more h g k = h
order_parts Equal a b c d e f more h g k = g
order_parts Greater a b c d e f more h g k = k

cond_parts : (t : Bool) (a b d e more : List (List ℕ)) → a ≡ d ++ more → b ≡ e ++ more → cond t a b ≡ cond t d e ++ more
cond_parts true a b d e more h g = h
cond_parts false a b d e more h g = g

-- a row that is below all of the second list comes first
row_first : (x : Row) (rest : List Row → List (List ℕ)) (ds : List Row) → IsBelow x.0 ds → merge_row x rest ds ≡ x.0 ∷ rest ds
row_first x rest [] h = refl
row_first x rest (d ∷ ds) h =
    ap (λ o. by_order o (x.0 ∷ rest (d ∷ ds)) (cond (same_row x d) (rest ds) (x.0 ∷ rest ds)) (d.0 ∷ merge_row x rest ds)) h.0

right_first : (ys cs ds : List Row) → AllBelow ys cs → merge_rows cs (ys ++ ds) ≡ paths_of ys ++ merge_rows cs ds
right_first [] cs ds g = refl
right_first (y ∷ ys) [] ds g = ap (λ (ps : List (List ℕ)). y.0 ∷ ps) (right_first ys [] ds g.1)
right_first (y ∷ ys) (c ∷ cs) ds g =
    ap (λ o. by_order o (c.0 ∷ merge_rows cs (y ∷ ys ++ ds)) (cond (same_row c y) (merge_rows cs (ys ++ ds)) (c.0 ∷ merge_rows cs (ys ++ ds))) (y.0 ∷ merge_row c (merge_rows cs) (ys ++ ds)))
    (turned y.0 c.0 g.0.0)
    ∙ ap (λ (ps : List (List ℕ)). y.0 ∷ ps) (right_first ys (c ∷ cs) ds g.1)

left_step : (x : Row) (xs cs ds : List Row) → IsBelow x.0 ds → ((zs : List Row) → AllBelow zs cs → merge_rows (xs ++ cs) (zs ++ ds) ≡ merge_rows xs zs ++ merge_rows cs ds)
    → (ys : List Row) → AllBelow ys cs → merge_row x (merge_rows (xs ++ cs)) (ys ++ ds) ≡ merge_row x (merge_rows xs) ys ++ merge_rows cs ds
left_step x xs cs ds h rest [] g = row_first x (merge_rows (xs ++ cs)) ds h ∙ ap (λ (ps : List (List ℕ)). x.0 ∷ ps) (rest [] tt)
left_step x xs cs ds h rest (y ∷ ys) g =
    let more : merge_rows (xs ++ cs) (ys ++ ds) ≡ merge_rows xs ys ++ merge_rows cs ds = rest ys g.1 in
    order_parts (order x.0 y.0) _ _ _ (x.0 ∷ merge_rows xs (y ∷ ys)) (cond (same_row x y) (merge_rows xs ys) (x.0 ∷ merge_rows xs ys)) (y.0 ∷ merge_row x (merge_rows xs) ys) (merge_rows cs ds)
    (ap (λ (ps : List (List ℕ)). x.0 ∷ ps) (rest (y ∷ ys) g))
    (cond_parts (same_row x y) _ _ (merge_rows xs ys) (x.0 ∷ merge_rows xs ys) (merge_rows cs ds) more (ap (λ (ps : List (List ℕ)). x.0 ∷ ps) more))
    (ap (λ (ps : List (List ℕ)). y.0 ∷ ps) (left_step x xs cs ds h rest ys g.1))

-- if the blocks of one list are below the later ones of the other, they are merged one after another
pub merge_blocks : (xs ys cs ds : List Row) → AllBelow xs ds → AllBelow ys cs → merge_rows (xs ++ cs) (ys ++ ds) ≡ merge_rows xs ys ++ merge_rows cs ds
merge_blocks [] ys cs ds h g = right_first ys cs ds g
merge_blocks (x ∷ xs) ys cs ds h g = left_step x xs cs ds h.0 (λ zs k. merge_blocks xs zs cs ds h.1 k) ys g

-- a path below a name
abbrev pub below : List ℕ → List ℕ → List ℕ
below name p = name ++ 47 ∷ p

below_all : (n : List ℕ) (rows : List Row) → paths_of (map (under n) rows) ≡ map (below n) (paths_of rows)
below_all n [] = refl
below_all n (row ∷ rows) = ap (λ (ps : List (List ℕ)). below n row.0 ∷ ps) (below_all n rows)

below_order : (n p q : List ℕ) → order (below n p) (below n q) ≡ order p q
below_order n p q =
    ap (λ a. order a (below n q)) (sym (append_assoc n (47 ∷ []) p)) ∙ ap (order ((n ++ 47 ∷ []) ++ p)) (sym (append_assoc n (47 ∷ []) q)) ∙ prefix (n ++ 47 ∷ []) p q

order_map : (f : List ℕ → List ℕ) (o r : Ordering) (a b c d e g : List (List ℕ)) → o ≡ r → a ≡ map f d → b ≡ map f e → c ≡ map f g → by_order o a b c ≡ map f (by_order r d e g)
order_map f o Less a b c d e g is h k m = ap (λ (t : Ordering). by_order t a b c) is ∙ h
order_map f o Equal a b c d e g is h k m = ap (λ (t : Ordering). by_order t a b c) is ∙ k
order_map f o Greater a b c d e g is h k m = ap (λ (t : Ordering). by_order t a b c) is ∙ m

cond_map : (f : List ℕ → List ℕ) (t : Bool) (a b d e : List (List ℕ)) → a ≡ map f d → b ≡ map f e → cond t a b ≡ map f (cond t d e)
cond_map f true a b d e h g = h
cond_map f false a b d e h g = g

under_step : (n : List ℕ) (r : Row) (rest whole : List Row → List (List ℕ)) → ((zs : List Row) → rest (map (under n) zs) ≡ map (below n) (whole zs))
    → (ss : List Row) → merge_row (under n r) rest (map (under n) ss) ≡ map (below n) (merge_row r whole ss)
under_step n r rest whole is [] = ap (λ (ps : List (List ℕ)). below n r.0 ∷ ps) (is [])
under_step n r rest whole is (s ∷ ss) =
    order_map (below n) _ (order r.0 s.0) _ _ _ (r.0 ∷ whole (s ∷ ss)) (cond (same_row r s) (whole ss) (r.0 ∷ whole ss)) (s.0 ∷ merge_row r whole ss) (below_order n r.0 s.0)
    (ap (λ (ps : List (List ℕ)). below n r.0 ∷ ps) (is (s ∷ ss)))
    (cond_map (below n) (same_row r s) _ _ (whole ss) (r.0 ∷ whole ss) (is ss) (ap (λ (ps : List (List ℕ)). below n r.0 ∷ ps) (is ss)))
    (ap (λ (ps : List (List ℕ)). below n s.0 ∷ ps) (under_step n r rest whole is ss))

-- what differs below a name
pub merge_under : (n : List ℕ) (rs ss : List Row) → merge_rows (map (under n) rs) (map (under n) ss) ≡ map (below n) (merge_rows rs ss)
merge_under n [] ss = below_all n ss
merge_under n (r ∷ rs) ss = under_step n r (merge_rows (map (under n) rs)) (merge_rows rs) (merge_under n rs) ss
