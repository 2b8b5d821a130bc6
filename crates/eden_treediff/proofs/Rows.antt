-- The rows at which two directories of the same names differ, and what is between them.
use Rattle.std.proofs.Common.{◌≡◌, ℕ, ◌+◌, ◌<◌, ◌≤◌, ◌++◌, inl, inr, Bool, true, false, cond, nat_eq, min, List, [], ◌∷◌, length, Option, Some, None, refl, sym, ap, subst, ◌∙◌, arith}
use Rattle.std.proofs.lemmas.Bool.{cases_Bool, eqb-true}
use Rattle.eden_ids.specs.declared.content.Kind.{Kind}
use Rattle.eden_ids.specs.declared.content.Kind.TheVariants.{Plain, Exec, Link}
use Rattle.eden_ids.specs.Sameness.{same_id}
use Rattle.eden_lanes.specs.Rows.{differ_from}
use Rattle.eden_git.specs.Trees.{Entry}
use Rattle.eden_git.specs.Columns.{ids_of, kind_byte, kinds_of, names_of}
use Rattle.eden_treediff.specs.internal.Columns.{AreChanges, first_row, rows_after}
use Rattle.eden_segments.proofs.Distinct.{same_id-is}

-- one list of rows: those from one on at which two lists differ

module _ {A : Type 0} (same : A → A → Bool) where
  alike : (k : ℕ) (x y : A) (xs ys : List A) → same x y ≡ true → differ_from same k (x ∷ xs) (y ∷ ys) ≡ differ_from same (k + 1) xs ys
  alike k x y xs ys t = ap (λ b. cond b [] (k ∷ []) ++ differ_from same (k + 1) xs ys) t

  unlike : (k : ℕ) (x y : A) (xs ys : List A) → same x y ≡ false → differ_from same k (x ∷ xs) (y ∷ ys) ≡ k ∷ differ_from same (k + 1) xs ys
  unlike k x y xs ys f = ap (λ b. cond b [] (k ∷ []) ++ differ_from same (k + 1) xs ys) f

  -- none is before the row from which they are counted
  not_before : (k j end : ℕ) (xs ys : List A) → k ≤ j → k ≤ end → k ≤ first_row (differ_from same j xs ys) end
  not_before k j end [] ys low fits = fits
  not_before k j end (x ∷ xs) [] low fits = fits
  not_before k j end (x ∷ xs) (y ∷ ys) low fits = elim (cases_Bool (same x y)) [
    | inl t ↦
        let is : first_row (differ_from same j (x ∷ xs) (y ∷ ys)) end ≡ first_row (differ_from same (j + 1) xs ys) end = ap (λ ns. first_row ns end) (alike j x y xs ys t) in
        let more = not_before k (j + 1) end xs ys (omega (arith, low)) fits in
        omega (arith, is, more)
    | inr f ↦
        let is : first_row (differ_from same j (x ∷ xs) (y ∷ ys)) end ≡ j = ap (λ ns. first_row ns end) (unlike j x y xs ys f) in
        omega (arith, is, low)
  ]

  not_here : (k j : ℕ) (xs ys : List A) → k < j → rows_after k (differ_from same j xs ys) ≡ differ_from same j xs ys
  not_here k j [] ys less = refl
  not_here k j (x ∷ xs) [] less = refl
  not_here k j (x ∷ xs) (y ∷ ys) less = elim (cases_Bool (same x y)) [
    | inl t ↦ ap (rows_after k) (alike j x y xs ys t) ∙ not_here k (j + 1) xs ys (omega (arith, less)) ∙ sym (alike j x y xs ys t)
    | inr f ↦
        let other : nat_eq j k ≡ false = grind (arith, less) in
        let more : List ℕ = differ_from same (j + 1) xs ys in
        ap (rows_after k) (unlike j x y xs ys f) ∙ ap (λ b. cond b more (j ∷ more)) other ∙ sym (unlike j x y xs ys f)
  ]

  pub row_passed : (k : ℕ) (x y : A) (xs ys : List A) (ns : List ℕ) → ns ≡ differ_from same k (x ∷ xs) (y ∷ ys) → rows_after k ns ≡ differ_from same (k + 1) xs ys
  row_passed k x y xs ys ns is = elim (cases_Bool (same x y)) [
    | inl t ↦
        let left : ns ≡ differ_from same (k + 1) xs ys = is ∙ alike k x y xs ys t in
        ap (rows_after k) left ∙ not_here k (k + 1) xs ys (omega arith)
    | inr f ↦
        let here : nat_eq k k ≡ true = grind arith in
        let more : List ℕ = differ_from same (k + 1) xs ys in
        ap (rows_after k) (is ∙ unlike k x y xs ys f) ∙ ap (λ b. cond b more (k ∷ more)) here
  ]

-- a kind is determined by its byte
kind_told : (k l : Option Kind) → kind_byte k ≡ kind_byte l → k ≡ l
kind_told None None is = refl
kind_told None (Some Plain) is = absurd (omega (arith, is))
kind_told None (Some Exec) is = absurd (omega (arith, is))
kind_told None (Some Link) is = absurd (omega (arith, is))
kind_told (Some Plain) None is = absurd (omega (arith, is))
kind_told (Some Exec) None is = absurd (omega (arith, is))
kind_told (Some Link) None is = absurd (omega (arith, is))
kind_told (Some Plain) (Some Plain) is = refl
kind_told (Some Plain) (Some Exec) is = absurd (omega (arith, is))
kind_told (Some Plain) (Some Link) is = absurd (omega (arith, is))
kind_told (Some Exec) (Some Plain) is = absurd (omega (arith, is))
kind_told (Some Exec) (Some Exec) is = refl
kind_told (Some Exec) (Some Link) is = absurd (omega (arith, is))
kind_told (Some Link) (Some Plain) is = absurd (omega (arith, is))
kind_told (Some Link) (Some Exec) is = absurd (omega (arith, is))
kind_told (Some Link) (Some Link) is = refl

first_name : (n m : List ℕ) (ns ms : List (List ℕ)) → n ∷ ns ≡ m ∷ ms → n ≡ m
first_name n m ns ms is = cc

other_names : (n m : List ℕ) (ns ms : List (List ℕ)) → n ∷ ns ≡ m ∷ ms → ns ≡ ms
other_names n m ns ms is = cc

-- up to the first row that differs the entries are the same
abbrev pub Jumps : ℕ → ℕ → List ℕ → List ℕ → List Entry → List Entry → Type 0
Jumps row to ids kinds es fs =
    (front : List Entry) × (us : List Entry) × (vs : List Entry) × (es ≡ front ++ us) × (fs ≡ front ++ vs) × (to ≡ row + length front) × AreChanges to ids kinds us vs

stays : (row to : ℕ) (ids kinds : List ℕ) (es fs : List Entry) → AreChanges row ids kinds es fs → to ≡ row → Jumps row to ids kinds es fs
stays row to ids kinds es fs told is = ([], es, fs, refl, refl, omega (arith, is), subst (λ r. AreChanges r ids kinds es fs) (sym is) told)

pub jump : (row end : ℕ) (ids kinds : List ℕ) (es fs : List Entry) → end ≡ row + length es → AreChanges row ids kinds es fs
    → Jumps row (min (first_row ids end) (first_row kinds end)) ids kinds es fs
jump row end ids kinds [] [] fits told =
    let one : first_row ids end ≡ end = ap (λ ns. first_row ns end) told.1 in
    let two : first_row kinds end ≡ end = ap (λ ns. first_row ns end) told.2 in
    stays row (min (first_row ids end) (first_row kinds end)) ids kinds [] [] told (omega (arith, one, two, fits))
jump row end ids kinds [] (f ∷ fs) fits told = let bad = told.0 in absurd (cc)
jump row end ids kinds (e ∷ es) [] fits told = let bad = told.0 in absurd (cc)
jump row end ids kinds (e ∷ es) (f ∷ fs) fits told = by (same_id e.id f.id) refl (nat_eq (kind_byte e.kind) (kind_byte f.kind)) refl (jump (row + 1) end ids kinds es fs (omega (arith, fits)))
  where
    to : ℕ
    to = min (first_row ids end) (first_row kinds end)

    low_id : row ≤ first_row ids end
    low_id =
        let is : first_row ids end ≡ first_row (differ_from same_id row (e.id ∷ ids_of es) (f.id ∷ ids_of fs)) end = ap (λ ns. first_row ns end) told.1 in
        let low = not_before same_id row row end (e.id ∷ ids_of es) (f.id ∷ ids_of fs) (omega arith) (omega (arith, fits)) in
        omega (arith, is, low)

    low_kind : row ≤ first_row kinds end
    low_kind =
        let is : first_row kinds end ≡ first_row (differ_from nat_eq row (kind_byte e.kind ∷ kinds_of es) (kind_byte f.kind ∷ kinds_of fs)) end = ap (λ ns. first_row ns end) told.2 in
        let low = not_before nat_eq row row end (kind_byte e.kind ∷ kinds_of es) (kind_byte f.kind ∷ kinds_of fs) (omega arith) (omega (arith, fits)) in
        omega (arith, is, low)

    by : (s : Bool) → same_id e.id f.id ≡ s → (t : Bool) → nat_eq (kind_byte e.kind) (kind_byte f.kind) ≡ t
        → (AreChanges (row + 1) ids kinds es fs → Jumps (row + 1) to ids kinds es fs) → Jumps row to ids kinds (e ∷ es) (f ∷ fs)
    by true s true t more =
        let name : e.name ≡ f.name = first_name e.name f.name (names_of es) (names_of fs) told.0 in
        let id : e.id ≡ f.id = same_id-is e.id f.id s in
        let kind : e.kind ≡ f.kind = kind_told e.kind f.kind (eqb-true (kind_byte e.kind) (kind_byte f.kind) t) in
        let one : e ≡ f = λ i. record { name = name i; kind = kind i; id = id i } in
        let rest = more (
          other_names e.name f.name (names_of es) (names_of fs) told.0,
          told.1 ∙ alike same_id row e.id f.id (ids_of es) (ids_of fs) s,
          told.2 ∙ alike nat_eq row (kind_byte e.kind) (kind_byte f.kind) (kinds_of es) (kinds_of fs) t,
        ) in
        let left : e ∷ es ≡ e ∷ rest.0 ++ rest.1 = ap (λ (xs : List Entry). e ∷ xs) rest.3 in
        let right : f ∷ fs ≡ e ∷ rest.0 ++ rest.2 = λ i. sym one i ∷ rest.4 i in
        let far : to ≡ row + length (e ∷ rest.0) = omega (arith, rest.5) in
        (e ∷ rest.0, rest.1, rest.2, left, right, far, rest.6)
    by false s b t more =
        let is : first_row ids end ≡ row = ap (λ ns. first_row ns end) (told.1 ∙ unlike same_id row e.id f.id (ids_of es) (ids_of fs) s) in
        stays row to ids kinds (e ∷ es) (f ∷ fs) told (omega (arith, is, low_kind))
    by true s false t more =
        let is : first_row kinds end ≡ row = ap (λ ns. first_row ns end) (told.2 ∙ unlike nat_eq row (kind_byte e.kind) (kind_byte f.kind) (kinds_of es) (kinds_of fs) t) in
        stays row to ids kinds (e ∷ es) (f ∷ fs) told (omega (arith, is, low_id))

-- after a row

pub passed_row : (row : ℕ) (ids kinds : List ℕ) (e f : Entry) (es fs : List Entry) → AreChanges row ids kinds (e ∷ es) (f ∷ fs)
    → AreChanges (row + 1) (rows_after row ids) (rows_after row kinds) es fs
passed_row row ids kinds e f es fs told = (
  other_names e.name f.name (names_of es) (names_of fs) told.0,
  row_passed same_id row e.id f.id (ids_of es) (ids_of fs) ids told.1,
  row_passed nat_eq row (kind_byte e.kind) (kind_byte f.kind) (kinds_of es) (kinds_of fs) kinds told.2,
)
