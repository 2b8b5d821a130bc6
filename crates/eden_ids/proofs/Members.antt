-- What holds of each element of a list of paths, and of each member of a set of them.
use Rattle.std.proofs.Common.{◌≡◌, ℕ, Bool, true, false, ◌||◌, List, [], ◌∷◌, ◌++◌, refl, sym, ap, subst, ◌∙◌}
use Rattle.std.proofs.lemmas.Bool.{or_right}
use Rattle.std.specs.List.{AllByRecursion, list_any}
use Rattle.eden_ids.specs.FileMaps.{PathSet, has, listing, path_set, same_path, union}
use Rattle.eden_ids.proofs.FileMapLemmas.{has-listing, has-path_set, has-union, same_path-is, same_path-refl}

module _ {A : Type 0} (P : A → Type 0) where
  pub all_joined : (xs ys : List A) → AllByRecursion P xs → AllByRecursion P ys → AllByRecursion P (xs ++ ys)
  all_joined [] ys h g = g
  all_joined (x ∷ xs) ys h g = (h.0, all_joined xs ys h.1 g)

  pub all_parts : (xs ys : List A) → AllByRecursion P (xs ++ ys) → AllByRecursion P xs × AllByRecursion P ys
  all_parts [] ys h = (tt, h)
  all_parts (x ∷ xs) ys h = let rest = all_parts xs ys h.1 in ((h.0, rest.0), rest.1)

module _ (P : List ℕ → Type 0) where
  -- it holds of each element where it does of each path that is listed
  pub all_listed : (ks : List (List ℕ)) → ((p : List ℕ) → list_any (λ q. same_path p q) ks ≡ true → P p) → AllByRecursion P ks
  all_listed [] h = tt
  all_listed (k ∷ ks) h =
      (h k (ap (λ b. b || list_any (λ q. same_path k q) ks) (same_path-refl k)), all_listed ks (λ p listed. h p (or_right (same_path p k) (list_any (λ q. same_path p q) ks) listed)))

  pub one_listed : (ks : List (List ℕ)) (p : List ℕ) → AllByRecursion P ks → list_any (λ q. same_path p q) ks ≡ true → P p
  one_listed [] p all listed = absurd (cc)
  one_listed (k ∷ ks) p all listed =
      elim (same_path p k) as (λ b. same_path p k ≡ b → (b || list_any (λ q. same_path p q) ks) ≡ true → P p) [
        | true ↦ λ e _. subst P (sym (same_path-is p k e)) all.0
        | false ↦ λ e more. one_listed ks p all.1 more
      ] refl listed

  -- the members of a set are what it lists
  pub all_members : (s : PathSet) → ((p : List ℕ) → has s p ≡ true → P p) → AllByRecursion P (listing s)
  all_members s h = all_listed (listing s) (λ p listed. h p (has-listing s p ∙ listed))

  pub one_member : (s : PathSet) (p : List ℕ) → AllByRecursion P (listing s) → has s p ≡ true → P p
  one_member s p all is = one_listed (listing s) p all (sym (has-listing s p) ∙ is)

  pub all_of_set : (ps : List (List ℕ)) → AllByRecursion P ps → AllByRecursion P (listing (path_set ps))
  all_of_set ps all = all_members (path_set ps) (λ p is. one_listed ps p all (sym (has-path_set ps p) ∙ is))

  pub all_of_union : (s t : PathSet) → AllByRecursion P (listing s) → AllByRecursion P (listing t) → AllByRecursion P (listing (union s t))
  all_of_union s t all more = all_members (union s t) (λ p is. by p (has s p) refl (sym (has-union s t p) ∙ is))
    where
      by : (p : List ℕ) (b : Bool) → has s p ≡ b → (b || has t p) ≡ true → P p
      by p true e _ = one_member s p all e
      by p false e is = one_member t p more is
