-- What a look-up finds in rows whose ids differ.
use Rattle.std.proofs.Common.{◌≡◌, ◌∙◌, sym, refl, ap, subst, Bool, true, false, cond, List, [], ◌∷◌, ◌++◌, append_assoc, Option, Some, None, reverse}
use Rattle.std.proofs.lemmas.List.{reverse-append, reverse-reverse}
use Rattle.std.specs.Map.{lookup}
use Rattle.std.specs.Option.{option_or}
use Rattle.std.specs.Cmp.Lexicographic.{same_text}
use Rattle.eden_ids.specs.declared.id.Id.{Id}
use Rattle.eden_ids.specs.Sameness.{same_id}
use Rattle.eden_segments.specs.Tables.{AreDistinct}

pub same_id-is : (a b : Id) → same_id a b ≡ true → a ≡ b
same_id-is a b same = ap (λ bytes. record { 0 = bytes }) (same_text a.0 b.0 (sym same))

option_or-none : {T : Type 0} (found : Option T) → option_or found None ≡ found
option_or-none None = refl
option_or-none (Some value) = refl

none-option_or : {T : Type 0} (found other : Option T) → option_or found other ≡ None → found ≡ None
none-option_or None other none = refl
none-option_or (Some value) other none = cc none

other-option_or : {T : Type 0} (found other : Option T) → option_or found other ≡ None → other ≡ None
other-option_or None other none = none
other-option_or (Some value) other none = cc none

module _ {V : Type 0} where
  pub lookup-append : (test : Id → Bool) (first second : List (Id × V))
      → lookup test (first ++ second) ≡ option_or (lookup test first) (lookup test second)
  lookup-append test [] second = refl
  lookup-append test (row ∷ first) second = by (test row.0) (lookup-append test first second) where
    by : (t : Bool) → lookup test (first ++ second) ≡ option_or (lookup test first) (lookup test second)
        → cond t (Some row.1) (lookup test (first ++ second)) ≡ option_or (cond t (Some row.1) (lookup test first)) (lookup test second)
    by true rest = refl
    by false rest = rest

  pub absent_in : (test : Id → Bool) (first second : List (Id × V)) → lookup test (first ++ second) ≡ None → lookup test first ≡ None
  absent_in test first second none =
      none-option_or (lookup test first) (lookup test second) (sym (lookup-append test first second) ∙ none)

  pub absent_behind : (test : Id → Bool) (first second : List (Id × V)) → lookup test (first ++ second) ≡ None → lookup test second ≡ None
  absent_behind test first second none =
      other-option_or (lookup test first) (lookup test second) (sym (lookup-append test first second) ∙ none)

  -- each id comes once, so that rows are asked in any order
  pub turned : (rows : List (Id × V)) (id : Id) → AreDistinct rows → lookup (same_id id) (reverse rows) ≡ lookup (same_id id) rows
  turned [] id distinct = refl
  turned (row ∷ rows) id distinct =
      ap (lookup (same_id id)) (reverse-append (row ∷ []) rows) ∙ lookup-append (same_id id) (reverse rows) (row ∷ [])
      ∙ ap (λ found. option_or found (cond (same_id id row.0) (Some row.1) None)) (turned rows id distinct.1)
      ∙ by (same_id id row.0) refl where
        by : (t : Bool) → same_id id row.0 ≡ t → option_or (lookup (same_id id) rows) (cond t (Some row.1) None) ≡ cond t (Some row.1) (lookup (same_id id) rows)
        by true is =
            ap (λ found. option_or found (Some row.1)) (ap (λ i. lookup (same_id i) rows) (same_id-is id row.0 is) ∙ distinct.0)
        by false is = option_or-none (lookup (same_id id) rows)

  pub turned_back : (rows : List (Id × V)) (id : Id) → AreDistinct (reverse rows) → lookup (same_id id) (reverse rows) ≡ lookup (same_id id) rows
  turned_back rows id distinct = sym (turned (reverse rows) id distinct) ∙ ap (lookup (same_id id)) (reverse-reverse rows)

  distinct_in : (first second : List (Id × V)) → AreDistinct (first ++ second) → AreDistinct first
  distinct_in [] second distinct = tt
  distinct_in (row ∷ first) second distinct =
      (absent_in (same_id row.0) first second distinct.0, distinct_in first second distinct.1)

  distinct_behind : (first second : List (Id × V)) → AreDistinct (first ++ second) → AreDistinct second
  distinct_behind [] second distinct = distinct
  distinct_behind (row ∷ first) second distinct = distinct_behind first second distinct.1

  pub distinct_earlier : (first second : List (Id × V)) → AreDistinct (reverse (first ++ second)) → AreDistinct (reverse first)
  distinct_earlier first second distinct = distinct_behind (reverse second) (reverse first) (subst AreDistinct (reverse-append first second) distinct)

  pub distinct_later : (first second : List (Id × V)) → AreDistinct (reverse (first ++ second)) → AreDistinct (reverse second)
  distinct_later first second distinct = distinct_in (reverse second) (reverse first) (subst AreDistinct (reverse-append first second) distinct)

  pub pushed : (rows : List (Id × V)) (row : Id × V) → reverse (rows ++ row ∷ []) ≡ row ∷ reverse rows
  pushed rows row = reverse-append rows (row ∷ [])

  -- a row's id is not among those in front of it
  pub absent_earlier : (first rest : List (Id × V)) (row : Id × V) → AreDistinct (reverse (first ++ row ∷ rest)) → lookup (same_id row.0) first ≡ None
  absent_earlier first rest row distinct =
      let here : AreDistinct (row ∷ reverse first) =
      subst AreDistinct (pushed first row)
      (distinct_earlier (first ++ row ∷ []) rest (subst (λ rows. AreDistinct (reverse rows)) (sym (append_assoc first (row ∷ []) rest)) distinct)) in
      sym (turned_back first row.0 here.1) ∙ here.0
