-- Bytes that are cut at the first one of some kind; paths that are cut at their first slash, against names that have none.
use Rattle.std.proofs.Common.{◌≡◌, ℕ, ◌++◌, inl, inr, Bool, true, false, cond, ◌&&◌, ◌||◌, nat_eq, List, [], ◌∷◌, Option, Some, None, refl, sym, ap, ◌∙◌}
use Rattle.std.proofs.lemmas.Bool.{cases_Bool, eqb-true, and_parts, or_parts, not-true}
use Rattle.std.specs.Cmp.{nat_eq_equiv}
use Rattle.std.specs.List.{list_any}
use Rattle.eden_ids.specs.Paths.{lies_below}
use Rattle.eden_ids.specs.Sameness.{same_bytes}
use Rattle.eden_git.specs.Trees.{cut, before_more, is_name}
use Rattle.std.proofs.Math.Bool.{and-false, and_assoc}

abbrev pub has_slash : List ℕ → Bool
has_slash bytes = list_any (λ b. nat_eq b 47) bytes

pub name_has_none : (name : List ℕ) → is_name name ≡ true → has_slash name ≡ false
name_has_none name h = not-true _ (and_parts _ _ h).1

more_none : (x : ℕ) (o : Option (List ℕ × List ℕ)) → before_more x o ≡ None → o ≡ None
more_none x None h = refl
more_none x (Some parts) h = absurd (cc)

parts_of : Option (List ℕ × List ℕ) → List ℕ × List ℕ
parts_of None = ([], [])
parts_of (Some parts) = parts

pub pair_parts : (p : List ℕ × List ℕ) (c r : List ℕ) → Some p ≡ Some (c, r) → (p.0 ≡ c) × (p.1 ≡ r)
unfolding parts_of
pair_parts p c r h = (ap (λ o. (parts_of o).0) h, ap (λ o. (parts_of o).1) h)

more_some : (x : ℕ) (o : Option (List ℕ × List ℕ)) (c r : List ℕ) → before_more x o ≡ Some (c, r) → (d : List ℕ) × (o ≡ Some (d, r)) × (x ∷ d ≡ c)
more_some x None c r h = absurd (cc)
more_some x (Some parts) c r h =
    let is = pair_parts (x ∷ parts.0, parts.1) c r h in
    (parts.0, ap (λ (s : List ℕ). Some (parts.0, s)) is.1, is.0)

cut_here : (byte x : ℕ) (rest : List ℕ) → nat_eq x byte ≡ true → cut byte (x ∷ rest) ≡ Some ([], rest)
cut_here byte x rest t = ap (λ b. cond b (Some ([], rest)) (before_more x (cut byte rest))) t

cut_later : (byte x : ℕ) (rest : List ℕ) → nat_eq x byte ≡ false → cut byte (x ∷ rest) ≡ before_more x (cut byte rest)
cut_later byte x rest f = ap (λ b. cond b (Some ([], rest)) (before_more x (cut byte rest))) f

pub cut_none : (p : List ℕ) → cut 47 p ≡ None → has_slash p ≡ false
cut_none [] h = refl
cut_none (x ∷ rest) h = elim (cases_Bool (nat_eq x 47)) [
  | inl t ↦ let e = cut_here 47 x rest t in absurd (cc)
  | inr f ↦ let more : has_slash rest ≡ false = cut_none rest (more_none x (cut 47 rest) (sym (cut_later 47 x rest f) ∙ h)) in rw (f, more) refl
]

none_more : (byte x : ℕ) (rest : List ℕ) → nat_eq x byte ≡ false → list_any (λ b. nat_eq b byte) rest ≡ false → list_any (λ b. nat_eq b byte) (x ∷ rest) ≡ false
none_more byte x rest f free = λ i. f i || free i

pub cut_first : (byte : ℕ) (p c r : List ℕ) → cut byte p ≡ Some (c, r) → (p ≡ c ++ byte ∷ r) × (list_any (λ b. nat_eq b byte) c ≡ false)
cut_first byte [] c r h = absurd (cc)
cut_first byte (x ∷ rest) c r h = elim (cases_Bool (nat_eq x byte)) [
  | inl t ↦
      let is : ([] ≡ c) × (rest ≡ r) = pair_parts ([], rest) c r (sym (cut_here byte x rest t) ∙ h) in
      let same : x ≡ byte = eqb-true x byte t in
      ((λ i. same i ∷ is.1 i) ∙ ap (λ (front : List ℕ). front ++ byte ∷ r) is.0, ap (list_any (λ b. nat_eq b byte)) (sym is.0))
  | inr f ↦
      let more = more_some x (cut byte rest) c r (sym (cut_later byte x rest f) ∙ h) in
      let is = cut_first byte rest more.0 r more.1 in (
        ap (λ (tail : List ℕ). x ∷ tail) is.0 ∙ ap (λ (front : List ℕ). front ++ byte ∷ r) more.2,
        ap (list_any (λ b. nat_eq b byte)) (sym more.2) ∙ none_more byte x more.0 f is.1,
      )
]

pub cut_some : (p c r : List ℕ) → cut 47 p ≡ Some (c, r) → (p ≡ c ++ 47 ∷ r) × (has_slash c ≡ false)
cut_some p c r h = cut_first 47 p c r h

turned : (x y : ℕ) → nat_eq x y ≡ nat_eq y x
turned = nat_eq_equiv.symm

-- a path with a slash is no name
pub not_under : (name p q : List ℕ) → has_slash p ≡ false → same_bytes (name ++ 47 ∷ q) p ≡ false
not_under [] [] q free = refl
not_under (n ∷ name) [] q free = refl
not_under [] (x ∷ p) q free = ap (λ b. b && same_bytes q p) (turned 47 x ∙ (or_parts _ _ free).0)
not_under (n ∷ name) (x ∷ p) q free = ap (λ b. nat_eq n x && b) (not_under name p q (or_parts _ _ free).1) ∙ and-false (nat_eq n x)

pub not_slashed : (name c r : List ℕ) → has_slash name ≡ false → same_bytes name (c ++ 47 ∷ r) ≡ false
not_slashed [] [] r free = refl
not_slashed [] (x ∷ c) r free = refl
not_slashed (n ∷ name) [] r free = ap (λ b. b && same_bytes name r) (or_parts _ _ free).0
not_slashed (n ∷ name) (x ∷ c) r free = ap (λ b. nat_eq n x && b) (not_slashed name c r (or_parts _ _ free).1) ∙ and-false (nat_eq n x)

-- two paths are equal where their first names and what follows are
pub same_under : (name c q r : List ℕ) → has_slash name ≡ false → has_slash c ≡ false → same_bytes (name ++ 47 ∷ q) (c ++ 47 ∷ r) ≡ (same_bytes name c && same_bytes q r)
same_under [] [] q r free none = refl
same_under [] (x ∷ c) q r free none = ap (λ b. b && same_bytes q (c ++ 47 ∷ r)) (turned 47 x ∙ (or_parts _ _ none).0)
same_under (n ∷ name) [] q r free none = ap (λ b. b && same_bytes (name ++ 47 ∷ q) r) (or_parts _ _ free).0
same_under (n ∷ name) (x ∷ c) q r free none =
    ap (λ b. nat_eq n x && b) (same_under name c q r (or_parts _ _ free).1 (or_parts _ _ none).1) ∙ sym (and_assoc (nat_eq n x) (same_bytes name c) (same_bytes q r))

-- a name is not below anything
pub name_not_below : (name top : List ℕ) → has_slash name ≡ false → lies_below name top ≡ false
name_not_below [] [] free = refl
name_not_below [] (t ∷ top) free = refl
name_not_below (n ∷ name) [] free = ap (λ b. b && true) (turned 47 n ∙ (or_parts _ _ free).0)
name_not_below (n ∷ name) (t ∷ top) free = ap (λ b. nat_eq t n && b) (name_not_below name top (or_parts _ _ free).1) ∙ and-false (nat_eq t n)

-- what is below a name
pub below_name : (name top q : List ℕ) → has_slash name ≡ false → has_slash top ≡ false → lies_below (name ++ 47 ∷ q) top ≡ same_bytes name top
below_name [] [] q free none = refl
below_name [] (t ∷ top) q free none = ap (λ b. b && lies_below q top) ((or_parts _ _ none).0)
below_name (n ∷ name) [] q free none = ap (λ b. b && true) (turned 47 n ∙ (or_parts _ _ free).0)
below_name (n ∷ name) (t ∷ top) q free none =
    ap (λ b. nat_eq t n && b) (below_name name top q (or_parts _ _ free).1 (or_parts _ _ none).1) ∙ ap (λ b. b && same_bytes name top) (turned t n)

-- what is below a path with a slash
pub below_under : (name c q r : List ℕ) → has_slash name ≡ false → has_slash c ≡ false → lies_below (name ++ 47 ∷ q) (c ++ 47 ∷ r) ≡ (same_bytes name c && lies_below q r)
below_under [] [] q r free none = refl
below_under [] (x ∷ c) q r free none = ap (λ b. b && lies_below q (c ++ 47 ∷ r)) (or_parts _ _ none).0
below_under (n ∷ name) [] q r free none = ap (λ b. b && lies_below (name ++ 47 ∷ q) r) (turned 47 n ∙ (or_parts _ _ free).0)
below_under (n ∷ name) (x ∷ c) q r free none =
    ap (λ b. nat_eq x n && b) (below_under name c q r (or_parts _ _ free).1 (or_parts _ _ none).1)
    ∙ ap (λ b. b && (same_bytes name c && lies_below q r)) (turned x n) ∙ sym (and_assoc (nat_eq n x) (same_bytes name c) (lies_below q r))
