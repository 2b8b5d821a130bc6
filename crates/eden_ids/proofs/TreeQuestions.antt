-- What is asked of a tree of files at a path: whether a file is there, above it or below it.
use Rattle.std.proofs.Common.{◌≡◌, ℕ, suc, zero, ◌<◌, Bool, true, false, ◌&&◌, ◌||◌, nat_eq, List, [], ◌∷◌, take, length, Option, Some, None, is_some, refl, sym, ap, ◌∙◌, arith}
use Rattle.std.proofs.lemmas.Bool.{and_parts}
use Rattle.std.specs.Borrow.{Bor}
use Rattle.std.specs.List.{list_any, starts_with, slice_index_or}
use Rattle.std.specs.FinMap as fin
use Rattle.eden_ids.specs.declared.content.Kind.{Kind}
use Rattle.eden_ids.specs.declared.content.Content.{Content}
use Rattle.eden_ids.specs.Paths.{clashes, lies_below}
use Rattle.eden_ids.specs.FileMaps.{FileMap, clashes_any, file_at, has_file_above, has_file_below, lent, paths, same_path}
use Rattle.eden_ids.proofs.FileMapLemmas.{held, same_path-is, same_path-refl}
use Rattle.std.proofs.Math.Bool.{or-true}

-- a file is lent if there is one
pub some_lent : (seen : Option (Kind × Bor (List ℕ))) (file : Option Content) → lent seen ≡ file → is_some seen ≡ is_some file
some_lent None file is = ap is_some is
some_lent (Some x) file is = ap is_some is

-- ---- tests of the paths of a list

-- a path of the list that passes
pub any_some : (test : List ℕ → Bool) (ks : List (List ℕ)) (p : List ℕ) → list_any (λ q. same_path p q) ks ≡ true → test p ≡ true → list_any test ks ≡ true
any_some test [] p listed e = absurd (cc)
any_some test (k ∷ ks) p listed e =
    elim (same_path p k) as (λ b. same_path p k ≡ b → (b || list_any (λ q. same_path p q) ks) ≡ true → (test k || list_any test ks) ≡ true) [
      | true ↦ λ s _. ap (λ b. b || list_any test ks) (ap test (sym (same_path-is p k s)) ∙ e)
      | false ↦ λ s more. ap (λ b. test k || b) (any_some test ks p more e) ∙ or-true (test k)
    ] refl listed

-- no path of the list passes
pub any_none : (test : List ℕ → Bool) (ks : List (List ℕ)) → ((p : List ℕ) → list_any (λ q. same_path p q) ks ≡ true → test p ≡ false) → list_any test ks ≡ false
any_none test [] h = refl
any_none test (k ∷ ks) h =
    ap (λ b. b || list_any test ks) (h k (ap (λ b. b || list_any (λ q. same_path k q) ks) (same_path-refl k)))
    ∙ any_none test ks (λ p listed. h p (ap (λ b. same_path p k || b) listed ∙ or-true (same_path p k)))

-- the path of the list that passes
pub any_witness : (test : List ℕ → Bool) (ks : List (List ℕ)) → list_any test ks ≡ true → (p : List ℕ) × (list_any (λ q. same_path p q) ks ≡ true) × (test p ≡ true)
any_witness test [] e = absurd (cc)
any_witness test (k ∷ ks) e =
    elim (test k) as (λ b. test k ≡ b → (b || list_any test ks) ≡ true → (p : List ℕ) × (list_any (λ q. same_path p q) (k ∷ ks) ≡ true) × (test p ≡ true)) [
      | true ↦ λ t _. (k, ap (λ b. b || list_any (λ q. same_path k q) ks) (same_path-refl k), t)
      | false ↦ λ t more. let found = any_witness test ks more in (found.0, ap (λ b. same_path found.0 k || b) found.1 ∙ or-true (same_path found.0 k), found.2)
    ] refl e

-- ---- a file above a path

-- what a path lies below ends at a slash of the path
below_parts : (path top : List ℕ) → lies_below path top ≡ true → (take (length top) path ≡ top) × (length top < length path) × (slice_index_or path (length top) 0 ≡ 47)
below_parts [] [] e = absurd (cc)
below_parts [] (y ∷ ys) e = absurd (cc)
below_parts (x ∷ xs) [] e =
    (refl, omega arith, byte (nat_eq 47 x) refl e)
  where
    byte : (b : Bool) → nat_eq 47 x ≡ b → (b && starts_with nat_eq xs []) ≡ true → x ≡ 47
    byte true is h = grind (arith, is)
    byte false is h = absurd (cc)
below_parts (x ∷ xs) (y ∷ ys) e = later (nat_eq y x) refl e (below_parts xs ys)
  where
    later : (b : Bool) → nat_eq y x ≡ b → (b && lies_below xs ys) ≡ true → (lies_below xs ys ≡ true → (take (length ys) xs ≡ ys) × (length ys < length xs) × (slice_index_or xs (length ys) 0 ≡ 47))
        → (take (suc (length ys)) (x ∷ xs) ≡ y ∷ ys) × (suc (length ys) < suc (length xs)) × (slice_index_or xs (length ys) 0 ≡ 47)
    later true is h more =
        let rest = more h in
        let same : x ≡ y = grind (arith, is) in
        ((λ i. same i ∷ rest.0 i), omega (arith, rest.1), rest.2)
    later false is h more = absurd (cc)

parts_below : (path : List ℕ) (i : ℕ) → i < length path → slice_index_or path i 0 ≡ 47 → lies_below path (take i path) ≡ true
parts_below [] i within is = absurd (omega arith)
parts_below (x ∷ xs) zero within is = rest xs (nat_eq 47 x) (grind (arith, is))
  where
    rest : (ys : List ℕ) (b : Bool) → b ≡ true → (b && starts_with nat_eq ys []) ≡ true
    rest [] b e = ap (λ c. c && true) e
    rest (y ∷ ys) b e = ap (λ c. c && true) e
parts_below (x ∷ xs) (suc i) within is =
    let same : nat_eq x x ≡ true = grind arith in
    ap (λ b. b && lies_below xs (take i xs)) same ∙ parts_below xs i (omega arith) is

pub some_above : (m : FileMap) (path : List ℕ) (i : ℕ) (f : Content) → i < length path → slice_index_or path i 0 ≡ 47 → file_at m (take i path) ≡ Some f → has_file_above m path ≡ true
some_above m path i f within slash is = any_some (λ top. lies_below path top) (paths m) (take i path) (held m (take i path) (ap is_some is)) (parts_below path i within slash)

pub none_above : (m : FileMap) (path : List ℕ) → ((i : ℕ) → i < length path → slice_index_or path i 0 ≡ 47 → file_at m (take i path) ≡ None) → has_file_above m path ≡ false
none_above m path h =
    any_none (λ top. lies_below path top) (paths m)
    (λ top at. elim (lies_below path top) as (λ b. lies_below path top ≡ b → b ≡ false) [
      | true ↦ λ e.
          let parts = below_parts path top e in
          let gone : file_at m top ≡ None = ap (file_at m) (sym parts.0) ∙ h (length top) parts.1 parts.2 in
          let bad : true ≡ false = sym at ∙ sym (fin.contains_key-keys m top) ∙ ap is_some gone in cc
      | false ↦ λ e. refl
    ] refl)

-- a slash is at the place, and a file at what is before it
abbrev pub stands : FileMap → List ℕ → ℕ → Bool
stands m path i = nat_eq (slice_index_or path i 0) 47 && is_some (file_at m (take i path))

pub stands_above : (m : FileMap) (path : List ℕ) (i : ℕ) → i < length path → stands m path i ≡ true → has_file_above m path ≡ true
stands_above m path i within e =
    let both = and_parts (nat_eq (slice_index_or path i 0) 47) (is_some (file_at m (take i path))) e in
    at (file_at m (take i path)) refl both.1 (grind (arith, both.0))
  where
    at : (o : Option Content) → file_at m (take i path) ≡ o → is_some o ≡ true → slice_index_or path i 0 ≡ 47 → has_file_above m path ≡ true
    at None is h slash = absurd (cc)
    at (Some f) is h slash = some_above m path i f within slash is

pub none_stands : (m : FileMap) (path : List ℕ) → ((i : ℕ) → i < length path → stands m path i ≡ false) → has_file_above m path ≡ false
none_stands m path h =
    none_above m path
    (λ i within slash. at i (file_at m (take i path)) refl (sym (ap (λ b. b && is_some (file_at m (take i path))) (slash_is (slice_index_or path i 0) slash)) ∙ h i within))
  where
    slash_is : (b : ℕ) → b ≡ 47 → nat_eq b 47 ≡ true
    slash_is b e = grind arith

    at : (i : ℕ) (o : Option Content) → file_at m (take i path) ≡ o → is_some (file_at m (take i path)) ≡ false → file_at m (take i path) ≡ None
    at i None is e = is
    at i (Some f) is e = let bad : true ≡ false = sym (ap is_some is) ∙ e in absurd (cc)

-- ---- clashes

either : (p : List ℕ) (ks : List (List ℕ)) → list_any (λ q. clashes p q) ks ≡ (list_any (λ top. lies_below p top) ks || list_any (λ q. lies_below q p) ks)
either p [] = refl
either p (k ∷ ks) = ap (λ b. clashes p k || b) (either p ks) ∙ mixed (lies_below p k) (lies_below k p) _ _
  where
    mixed : (a b x y : Bool) → ((a || b) || (x || y)) ≡ ((a || x) || (b || y))
    mixed true b x y = refl
    mixed false true true y = refl
    mixed false true false y = refl
    mixed false false x y = refl

-- a file is above the path, or below it
pub clashes_either : (m : FileMap) (p : List ℕ) → clashes_any m p ≡ (has_file_above m p || has_file_below m p)
clashes_either m p = either p (paths m)
