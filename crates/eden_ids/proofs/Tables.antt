-- Sets of paths that grow by one path after another.
use Rattle.std.proofs.Common.{◌≡◌, ℕ, Bool, true, false, ◌||◌, List, [], ◌∷◌, ◌++◌, is_some, refl, sym, ap, ◌∙◌}
use Rattle.std.specs.List.{list_any}
use Rattle.std.specs.Cmp.Lexicographic.{nat_list_cmp_total}
use Rattle.std.specs.FinMap as fin
use Rattle.eden_ids.specs.FileMaps.{PathSet, has, no_paths, path_set, same_path, union}
use Rattle.eden_ids.proofs.FileMapLemmas.{has-append, has-none, has-path_set, has-union, same_path_set, some_cond}
use Rattle.eden_ids.proofs.Bools.{or_turned}
use Rattle.std.proofs.Math.Bool.{or-false, or_assoc}

pub has-insert : (t : PathSet) (p q : List ℕ) → has (fin.insert t p tt) q ≡ (same_path q p || has t q)
has-insert t p q = ap is_some (fin.get-insert nat_list_cmp_total t p tt q) ∙ some_cond (same_path q p) (fin.get t q)

-- the first of some paths is added
pub union-more : (p : List ℕ) (ps : List (List ℕ)) (t : PathSet) → union (path_set ps) (fin.insert t p tt) ≡ union (path_set (p ∷ ps)) t
union-more p ps t = same_path_set _ _ (λ q.
    has-union (path_set ps) (fin.insert t p tt) q
    ∙ ap (λ b. has (path_set ps) q || b) (has-insert t p q)
    ∙ ap (λ b. b || (same_path q p || has t q)) (has-path_set ps q)
    ∙ sym (or_assoc (same_path q p) (list_any (λ r. same_path q r) ps) (has t q) ∙ or_turned (same_path q p) (list_any (λ r. same_path q r) ps) (has t q))
    ∙ ap (λ b. b || has t q) (sym (has-path_set (p ∷ ps) q))
    ∙ sym (has-union (path_set (p ∷ ps)) t q))

-- no path is added
pub union-none : (t : PathSet) → union (path_set []) t ≡ t
union-none t = same_path_set _ _ (λ q. has-union (path_set []) t q ∙ ap (λ b. b || has t q) (has-path_set [] q))

-- and the last of some
pub union-last : (ps : List (List ℕ)) (p : List ℕ) (t : PathSet) → union (path_set (ps ++ p ∷ [])) t ≡ fin.insert (union (path_set ps) t) p tt
union-last [] p t = sym (union-more p [] t) ∙ union-none (fin.insert t p tt) ∙ ap (λ s. fin.insert s p tt) (sym (union-none t))
union-last (q ∷ ps) p t =
    sym (union-more q (ps ++ p ∷ []) t) ∙ union-last ps p (fin.insert t q tt) ∙ ap (λ s. fin.insert s p tt) (union-more q ps t)

or-assoc : (a b c d : Bool) → (a || (b || (c || d))) ≡ ((a || (b || c)) || d)
or-assoc true b c d = refl
or-assoc false true c d = refl
or-assoc false false c d = refl

-- the paths of three lists
pub union_three : (ps qs rs : List (List ℕ)) → union (path_set ps) (union (path_set qs) (union (path_set rs) no_paths)) ≡ path_set (ps ++ (qs ++ rs))
union_three ps qs rs = same_path_set _ _ (λ p.
    has-union (path_set ps) _ p
    ∙ ap (λ b. has (path_set ps) p || b) (has-union (path_set qs) _ p
    ∙ ap (λ b. has (path_set qs) p || b) (has-union (path_set rs) no_paths p ∙ ap (λ b. has (path_set rs) p || b) (has-none p) ∙ or-false (has (path_set rs) p))
    ∙ sym (has-append qs rs p))
    ∙ sym (has-append ps (qs ++ rs) p))
