-- The laws of counted bytes and of counted lists.
use Rattle.std.proofs.Common.{◌≡◌, ℕ, zero, suc, Bool, List, [], ◌∷◌, ◌++◌, length, Option, Some, None, Ok, refl, sym, ap, subst, ◌∙◌, append_assoc}
use Rattle.std.specs.List.{flat_map, AllByRecursion}
use Rattle.std.proofs.lemmas.List.Concat.{flat_map-cons}
use Rattle.eden_wire.proofs.Numbers.{IsBytes, bind_ok, along, Takes, Takes-then}
use Rattle.eden_wire.specs.Formats.{◌>>=◌, Format, exactly, only, counted, list, items_at, Follow}
use Rattle.eden_wire.proofs.FormatLaws.{Laws, exactly_again, exactly_exact, only_laws}

module _ (count : Format ℕ) (counts : Laws ℕ count) where
  counted_again : (text rest : List ℕ) → count.fits (length text) → (counted count).read ((count.spell (length text) ++ text) ++ rest) ≡ Ok (text, rest)
  counted_again text rest fits =
      rw (append_assoc (count.spell (length text)) text rest, counts.again (length text) (text ++ rest) fits) (exactly_again (length text) text rest refl)

  counted_exact : (bytes : List ℕ) (x : List ℕ × List ℕ) → IsBytes bytes → (counted count).read bytes ≡ Ok x
      → Takes bytes ((counted count).spell x.0) x.1 × (counted count).fits x.0
  counted_exact bytes x fits e =
      let a = bind_ok (count.read bytes) (λ n. (exactly n.0).read n.1) x e in
      let n = counts.exact bytes a.0 fits a.1 in
      let t = exactly_exact a.0.0 a.0.1 x n.0.rest_fits a.2 in
      let both = Takes-then bytes (count.spell a.0.0) a.0.1 x.0 x.1 n.0 t.0 in
      (subst (λ (k : ℕ). Takes bytes (count.spell k ++ x.0) x.1) (sym t.1.0) both, (subst (λ (k : ℕ). count.fits k) (sym t.1.0) n.1, t.1.1))

  pub counted_laws : Laws (List ℕ) (counted count)
  counted_laws = record { again = λ text rest fits. counted_again text rest fits.0; exact = counted_exact }

items_again : {A : Type 0} (item : Format A) → Laws A item → (may : Option A → A → Bool) (xs : List A) (last : Option A) (rest : List ℕ)
    → AllByRecursion item.fits xs → Follow may last xs → items_at item may (length xs) last (flat_map item.spell xs ++ rest) ≡ Ok (xs, rest)
unfolding items_at
items_again item laws may [] last rest fits follow = refl
items_again item laws may (x ∷ xs) last rest fits follow =
    let regrouped : flat_map item.spell (x ∷ xs) ++ rest ≡ item.spell x ++ (flat_map item.spell xs ++ rest) =
    ap (λ (t : List ℕ). t ++ rest) (flat_map-cons item.spell x xs) ∙ append_assoc (item.spell x) (flat_map item.spell xs) rest in
    ap (items_at item may (suc (length xs)) last) regrouped
    ∙ rw (laws.again x (flat_map item.spell xs ++ rest) fits.0, follow.0, items_again item laws may xs (Some x) rest fits.1 follow.1) refl

items_exact : {A : Type 0} (item : Format A) → Laws A item → (may : Option A → A → Bool) (count : ℕ) (last : Option A) (bytes : List ℕ) (x : List A × List ℕ) → IsBytes bytes
    → items_at item may count last bytes ≡ Ok x
    → Takes bytes (flat_map item.spell x.0) x.1 × (length x.0 ≡ count) × AllByRecursion item.fits x.0 × Follow may last x.0
unfolding items_at
items_exact {A} item laws may zero last bytes x fits e =
    along (λ (y : List A × List ℕ). Takes bytes (flat_map item.spell y.0) y.1 × (length y.0 ≡ 0) × AllByRecursion item.fits y.0 × Follow may last y.0) ([], bytes) x e
    (record { parts = refl; rest_fits = fits }, refl, tt, tt)
items_exact {A} item laws may (suc count) last bytes x fits e =
    let a = bind_ok ((only item (λ y. may last y)).read bytes) (λ first. items_at item may count (Some first.0) first.1 >>= λ others. Ok (first.0 ∷ others.0, others.1)) x e in
    let b = bind_ok (items_at item may count (Some a.0.0) a.0.1) (λ others. Ok (a.0.0 ∷ others.0, others.1)) x a.2 in
    let first = (only_laws item laws (λ y. may last y)).exact bytes a.0 fits a.1 in
    let others = items_exact item laws may count (Some a.0.0) a.0.1 b.0 first.0.rest_fits b.1 in
    let both = Takes-then bytes (item.spell a.0.0) a.0.1 (flat_map item.spell b.0.0) b.0.1 first.0 others.0 in
    let made : List A × List ℕ = (a.0.0 ∷ b.0.0, b.0.1) in
    along (λ (y : List A × List ℕ). Takes bytes (flat_map item.spell y.0) y.1 × (length y.0 ≡ suc count) × AllByRecursion item.fits y.0 × Follow may last y.0) made x b.2
    (rw flat_map-cons both, ap suc others.1, (first.1.0, others.2), (first.1.1, others.3))

module _ {A : Type 0} (count : Format ℕ) (counts : Laws ℕ count) (item : Format A) (items : Laws A item) (may : Option A → A → Bool) where
  list_again : (xs : List A) (rest : List ℕ) → (list count item may).fits xs → (list count item may).read ((list count item may).spell xs ++ rest) ≡ Ok (xs, rest)
  list_again xs rest fits =
      rw (append_assoc (count.spell (length xs)) (flat_map item.spell xs) rest, counts.again (length xs) (flat_map item.spell xs ++ rest) fits.0)
      (items_again item items may xs None rest fits.1 fits.2)

  list_exact : (bytes : List ℕ) (x : List A × List ℕ) → IsBytes bytes → (list count item may).read bytes ≡ Ok x
      → Takes bytes ((list count item may).spell x.0) x.1 × (list count item may).fits x.0
  list_exact bytes x fits e =
      let a = bind_ok (count.read bytes) (λ n. items_at item may n.0 None n.1) x e in
      let n = counts.exact bytes a.0 fits a.1 in
      let t = items_exact item items may a.0.0 None a.0.1 x n.0.rest_fits a.2 in
      let both = Takes-then bytes (count.spell a.0.0) a.0.1 (flat_map item.spell x.0) x.1 n.0 t.0 in
      (subst (λ (k : ℕ). Takes bytes (count.spell k ++ flat_map item.spell x.0) x.1) (sym t.1) both, (subst (λ (k : ℕ). count.fits k) (sym t.1) n.1, t.2, t.3))

  pub list_laws : Laws (List A) (list count item may)
  list_laws = record { again = list_again; exact = list_exact }
