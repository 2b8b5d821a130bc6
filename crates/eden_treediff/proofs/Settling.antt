-- The pairs of trees that a walk remembers.
use Rattle.std.proofs.Common.{◌≡◌, ℕ, inl, inr, Bool, true, false, cond, ◌||◌, List, [], ◌∷◌, ◌++◌, map, Option, Some, None, refl, sym, ap, ◌∙◌}
use Rattle.std.proofs.lemmas.Bool.{cases_Bool}
use Rattle.std.proofs.lemmas.List.{append-nil}
use Rattle.std.proofs.lemmas.Map.Lookups.{CmpEqualImpliesEq, exact_bytes, exact_pairs}
use Rattle.std.specs.Ordering.{nat_cmp}
use Rattle.std.specs.Cmp.Lexicographic.{slice_cmp}
use Rattle.std.specs.BTreeMap.{is_at}
use Rattle.std.specs.BTreeSet.{Updates}
use Rattle.std.specs.Cmp.{Equal-is}
use Rattle.eden_ids.specs.declared.id.Id.{Id}
use Rattle.eden_objects.specs.Objects.{Held}
use Rattle.eden_git.specs.Trees.{Entry}
use Rattle.eden_treediff.specs.declared.known_pairs.KnownPairs.{KnownPairs}
use Rattle.eden_treediff.specs.Merges.{merge_rows}
use Rattle.eden_treediff.specs.internal.Pairs.{next_pair}
use Rattle.eden_treediff.specs.internal.Settled.{AreSettled, HoldSame, is_known, is_settled, side_cmp, sides_cmp}
use Rattle.eden_treediff.specs.internal.Walks.{is_one_tree, side_rows, wanted_behind}
use Rattle.eden_treediff.proofs.Exact.{same_law}
use Rattle.eden_treediff.proofs.Steps.{merge_entries}
use Rattle.eden_segments.proofs.Distinct.{same_id-is}

side_is : (a b : Option Id) → is_one_tree a b ≡ true → a ≡ b
side_is None None h = refl
side_is (Some a) (Some b) h = ap Some (same_id-is a b h)
side_is None (Some b) h = absurd (cc)
side_is (Some a) None h = absurd (cc)

-- a tree does not differ from itself, nor does a pair that is remembered
pub known_same : (held : List Held) (settled : KnownPairs) (first second : Option Id) → AreSettled held settled → is_known settled first second ≡ true → HoldSame held first second
known_same held settled first second all known = by (is_one_tree first second) refl known
  where
    by : (b : Bool) → is_one_tree first second ≡ b → (b || is_settled settled first second) ≡ true → HoldSame held first second
    by true same h = ap (λ side. merge_rows (side_rows held side) (side_rows held second)) (side_is first second same) ∙ same_law (side_rows held second)
    by false same h = all first second h

-- it adds no path
pub known_sides : (held : List Held) (settled : KnownPairs) (first second : Option Id) (test : List ℕ → Bool) (front : List ℕ) (done : List (List ℕ)) → AreSettled held settled → is_known settled first second ≡ true
    → done ≡ done ++ wanted_behind test front (merge_rows (side_rows held first) (side_rows held second))
known_sides held settled first second test front done all is =
    sym (ap (λ ps. done ++ wanted_behind test front ps) (known_same held settled first second all is) ∙ append-nil done)

exact_ids : CmpEqualImpliesEq {K = Id} (λ a b. slice_cmp nat_cmp a.0 b.0)
exact_ids a b h = λ i. record { 0 = exact_bytes a.0 b.0 h i }

exact_side : CmpEqualImpliesEq side_cmp
exact_side None None h = refl
exact_side (Some a) (Some b) h = ap Some (exact_ids a b h)
exact_side None (Some b) h = absurd (cc)
exact_side (Some a) None h = absurd (cc)

exact_sides : CmpEqualImpliesEq sides_cmp
exact_sides = exact_pairs side_cmp side_cmp exact_side exact_side

-- one more pair
pub settled_more : (held : List Held) (old new : KnownPairs) (first second : Option Id) → AreSettled held old → HoldSame held first second → Updates sides_cmp old.pairs new.pairs (first, second) true
    → AreSettled held new
settled_more held old new first second all same updates a b is = elim (cases_Bool (is_at (sides_cmp (first, second)) (a, b))) [
  | inl t ↦
      let one : (first, second) ≡ (a, b) = exact_sides (first, second) (a, b) ((Equal-is (sides_cmp (first, second) (a, b))).0 t) in
      sym (ap (λ (s : Option Id × Option Id). merge_rows (side_rows held s.0) (side_rows held s.1)) one) ∙ same
  | inr f ↦ all a b (sym (ap (λ t. cond t true (is_settled old a b)) f) ∙ sym (updates.0 (a, b)) ∙ is)
]

-- at the end nothing is left
pub nothing_left : (held : List Held) (es fs : List Entry) → None ≡ next_pair es fs → merge_entries held es fs ≡ []
nothing_left held [] [] is = refl
nothing_left held (e ∷ es) [] is = absurd (cc)
nothing_left held [] (f ∷ fs) is = absurd (cc)
nothing_left held (e ∷ es) (f ∷ fs) is = absurd (cc)

-- ---- whether the sides hold the same files, as far as the walk has come

-- a pair with paths decides it
pub other_from : (P : Type 0) (whole all ps qs : List (List ℕ)) (same : Bool) → all ≡ ps ++ qs → (same ≡ true → whole ≡ all) → (same ≡ false → P → whole ≡ [] → ⊥) → (P → ps ≡ [] → ⊥)
    → P → whole ≡ [] → ⊥
other_from P whole all ps qs true parts so_far before some p none = some p (first_none ps qs (sym parts ∙ sym (so_far refl) ∙ none))
  where
    first_none : (xs ys : List (List ℕ)) → xs ++ ys ≡ [] → xs ≡ []
    first_none [] ys h = refl
    first_none (x ∷ xs) ys h = absurd (cc)
other_from P whole all ps qs false parts so_far before some p none = before refl p none

pub some_path : (p : List ℕ) (ps : List (List ℕ)) → ps ≡ p ∷ [] → ps ≡ [] → ⊥
some_path p ps one none = let bad : p ∷ [] ≡ [] = sym one ∙ none in cc

pub none_inside : (f : List ℕ → List ℕ) (ps qs : List (List ℕ)) → ps ≡ map f qs → ps ≡ [] → qs ≡ []
none_inside f ps [] is none = refl
none_inside f ps (q ∷ qs) is none = let bad : f q ∷ map f qs ≡ [] = sym is ∙ none in absurd (cc)
