-- The paths of a map that pass a test, as a list.
use Rattle.std.proofs.Common.{◌≡◌, ℕ, Bool, true, false, cond, ◌&&◌, List, [], ◌∷◌, map, Option, None, is_some, refl, sym, ap, ◌∙◌}
use Rattle.std.specs.Prelude.{filter}
use Rattle.std.specs.Ordering.{nat_cmp}
use Rattle.std.specs.Cmp.Lexicographic.{slice_cmp}
use Rattle.std.specs.FinMap as fin
use Rattle.std.specs.FinMap.Entries.{where_key, is_sorted-where_key, find-where_key}
use Rattle.eden_ids.specs.FileMaps.{PathSet, has, listing}
use Rattle.eden_ids.proofs.TreeMaps.{listing-same}

module _ {X : Type 0} where
  -- the entries of a map whose paths pass a test
  abbrev pub sifted : fin.FinMap (slice_cmp nat_cmp) X → (List ℕ → Bool) → fin.FinMap (slice_cmp nat_cmp) X
  sifted m test = fin.from_sorted (where_key (slice_cmp nat_cmp) test (fin.entries m))

  keys-where : (test : List ℕ → Bool) (es : List (List ℕ × X)) → map (λ e. e.0) (where_key (slice_cmp nat_cmp) test es) ≡ filter test (map (λ e. e.0) es)
  keys-where test [] = refl
  keys-where test (e ∷ es) =
      let rest = keys-where test es in
      elim (test e.0) as (λ b. map (λ f. f.0) (cond b (e ∷ where_key (slice_cmp nat_cmp) test es) (where_key (slice_cmp nat_cmp) test es)) ≡ cond b (e.0 ∷ filter test (map (λ f. f.0) es)) (filter test (map (λ f. f.0) es))) [
        | true ↦ ap (λ ks. e.0 ∷ ks) rest
        | false ↦ rest
      ]

  pub keys-sifted : (m : fin.FinMap (slice_cmp nat_cmp) X) (test : List ℕ → Bool) → fin.keys (sifted m test) ≡ filter test (fin.keys m)
  keys-sifted m test =
      ap (map (λ e. e.0)) (fin.entries-from_sorted (slice_cmp nat_cmp) (where_key (slice_cmp nat_cmp) test (fin.entries m)) (is_sorted-where_key (slice_cmp nat_cmp) test (fin.entries m) (fin.entries_sorted m)))
      ∙ keys-where test (fin.entries m)

  pub has-sifted : (m : fin.FinMap (slice_cmp nat_cmp) X) (test : List ℕ → Bool) (q : List ℕ) → fin.contains_key (sifted m test) q ≡ (test q && fin.contains_key m q)
  has-sifted m test q =
      ap is_some (fin.get-from_sorted (slice_cmp nat_cmp) (where_key (slice_cmp nat_cmp) test (fin.entries m)) q (is_sorted-where_key (slice_cmp nat_cmp) test (fin.entries m) (fin.entries_sorted m))
      ∙ find-where_key (slice_cmp nat_cmp) test q (λ x e. ap test (sym (fin.slice_cmp-IsAntisymmetric fin.nat_cmp-IsAntisymmetric q x e))) (fin.entries m)
      ∙ ap (λ o. cond (test q) o None) (sym (fin.get-entries m q)))
      ∙ apart (test q) (fin.get m q)
    where
      apart : (b : Bool) (o : Option X) → is_some (cond b o None) ≡ (b && is_some o)
      apart true o = refl
      apart false o = refl

  -- a set whose members are the paths of a map that pass a test lists them
  pub listing_of : (s : PathSet) (m : fin.FinMap (slice_cmp nat_cmp) X) (test : List ℕ → Bool) → ((p : List ℕ) → has s p ≡ (test p && fin.contains_key m p)) → listing s ≡ filter test (fin.keys m)
  listing_of s m test h = listing-same s (sifted m test) (λ p. h p ∙ sym (has-sifted m test p)) ∙ keys-sifted m test
