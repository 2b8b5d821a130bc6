-- Two paths that are set in an overlay, one after the other.
use Rattle.std.proofs.Common.{◌≡◌, ℕ, nat_eq, Bool, true, false, cond, List, Option, Some, None, Bor, refl, sym, ap, ◌∙◌}
use Rattle.std.specs.Cmp.Lexicographic.{nat_list_cmp_total}
use Rattle.std.specs.FinMap as fin
use Rattle.eden_ids.specs.declared.content.Content.{Content}
use Rattle.eden_ids.specs.FileMaps.{same_path}
use Rattle.eden_ids.proofs.FileMapLemmas.{same_path-is}
use Rattle.std.specs.Prelude.{is_some, option_copied}
use Rattle.std.specs.Cmp.Lexicographic.{pointwise}
use Rattle.std.proofs.lemmas.Slice.Eq.{bytes_eq-Decides}
use Rattle.eden_overlay.specs.Layers.{Layer}

same_layer : (m n : Layer) → ((q : List ℕ) → fin.get m q ≡ fin.get n q) → m ≡ n
same_layer m n alike = fin.same_map nat_list_cmp_total (fin.slice_cmp-IsAntisymmetric fin.nat_cmp-IsAntisymmetric) m n alike

told : (m : Layer) (k : List ℕ) (v : Option Content) (q : List ℕ) → fin.get (fin.insert m k v) q ≡ cond (same_path q k) (Some v) (fin.get m q)
told m k v q = fin.get-insert nat_list_cmp_total m k v q

told_twice : (m : Layer) (k j : List ℕ) (v w : Option Content) (q : List ℕ)
    → fin.get (fin.insert (fin.insert m k v) j w) q ≡ cond (same_path q j) (Some w) (cond (same_path q k) (Some v) (fin.get m q))
told_twice m k j v w q = told (fin.insert m k v) j w q ∙ ap (cond (same_path q j) (Some w)) (told m k v q)

-- what is said last of a path
pub set_again : (m : Layer) (k : List ℕ) (v w : Option Content) → fin.insert m k w ≡ fin.insert (fin.insert m k v) k w
set_again m k v w = same_layer _ _ (λ q. told m k w q ∙ sym (told_twice m k k v w q ∙ once (same_path q k) (fin.get m q)))
  where
    once : (b : Bool) (o : Option (Option Content)) → cond b (Some w) (cond b (Some v) o) ≡ cond b (Some w) o
    once true o = refl
    once false o = refl

-- two paths may be set in either order
pub set_either : (m : Layer) (k j : List ℕ) (v w : Option Content) → same_path j k ≡ false → fin.insert (fin.insert m j w) k v ≡ fin.insert (fin.insert m k v) j w
set_either m k j v w other = same_layer _ _ (λ q. told_twice m j k w v q ∙ by q (same_path q k) (same_path q j) refl refl ∙ sym (told_twice m k j v w q))
  where
    by : (q : List ℕ) (a b : Bool) → same_path q k ≡ a → same_path q j ≡ b
        → cond (same_path q k) (Some v) (cond (same_path q j) (Some w) (fin.get m q)) ≡ cond (same_path q j) (Some w) (cond (same_path q k) (Some v) (fin.get m q))
    by q true true x y =
        let bad : true ≡ false = sym x ∙ ap (λ p. same_path p k) (same_path-is q j y) ∙ other in absurd (cc)
    by q true false x y =
        ap (λ a. cond a (Some v) (cond (same_path q j) (Some w) (fin.get m q))) x
        ∙ sym (ap (λ b. cond b (Some w) (cond (same_path q k) (Some v) (fin.get m q))) y ∙ ap (λ a. cond a (Some v) (fin.get m q)) x)
    by q false b x y =
        ap (λ a. cond a (Some v) (cond (same_path q j) (Some w) (fin.get m q))) x
        ∙ sym (ap (λ a. cond (same_path q j) (Some w) (cond a (Some v) (fin.get m q))) x)

-- nothing said of one path is about another
pub still_told : (m : Layer) (k j : List ℕ) (w : Option Content) → same_path k j ≡ false → fin.get (fin.insert m j w) k ≡ fin.get m k
still_told m k j w other = told m j w k ∙ ap (λ b. cond b (Some w) (fin.get m k)) other

-- what was set at a path at which nothing had been is taken back
pub taken_back : (m : Layer) (k : List ℕ) (v : Option Content) → fin.get m k ≡ None → fin.remove (fin.insert m k v) k ≡ m
taken_back m k v none =
    same_layer _ _ (λ q. fin.get-remove nat_list_cmp_total (fin.insert m k v) k q ∙ ap (cond (same_path q k) None) (told m k v q) ∙ by q (same_path q k) refl)
  where
    by : (q : List ℕ) (b : Bool) → same_path q k ≡ b → cond (same_path q k) None (cond (same_path q k) (Some v) (fin.get m q)) ≡ fin.get m q
    by q true e = ap (λ b. cond b None (cond (same_path q k) (Some v) (fin.get m q))) e ∙ sym (ap (fin.get m) (same_path-is q k e) ∙ none)
    by q false e = ap (λ b. cond b None (cond b (Some v) (fin.get m q))) e

pub other_path : (p q : List ℕ) → pointwise nat_eq p q ≡ false → same_path q p ≡ false
other_path p q other = by (same_path q p) refl
  where
    by : (b : Bool) → same_path q p ≡ b → b ≡ false
    by false e = refl
    by true e = let bad : true ≡ false = sym ((bytes_eq-Decides p q).1 (sym (same_path-is q p e))) ∙ other in absurd (cc)

pub same_bytes_are : (p q : List ℕ) → pointwise nat_eq p q ≡ true → p ≡ q
same_bytes_are p q e = (bytes_eq-Decides p q).0 e

pub not_told_of : {X : Type 0} (o : Option (Bor X)) (p : Option X) → option_copied o ≡ p → is_some o ≡ false → p ≡ None
not_told_of None p is e = sym is
not_told_of (Some x) p is e = absurd (cc)

pub told_of : {X : Type 0} (o : Option (Bor X)) (p : Option X) → option_copied o ≡ p → is_some o ≡ true → p ≡ None → ⊥
told_of None p is e none = cc
told_of (Some x) p is e none = let bad : Some x.now ≡ None = is ∙ none in cc
