-- Patterns, whose members either match any number of items or take one item each, and the
-- stretches of the latter.
use Rattle.std.proofs.Common.{◌≡◌, ℕ, ◌+◌, ◌-◌, ◌≤◌, Bool, true, false, cond, ◌&&◌, ◌||◌, List, [], ◌∷◌, drop, length, take, refl, sym, ap, ◌∙◌, arith}
use Rattle.std.proofs.Math.Bool.{and-false}
use Rattle.std.proofs.lemmas.List.{drop_all, length-drop, take_all}
use Rattle.eden_globs.specs.Filters.{first_then, is_none_left, some_rest}
use Rattle.eden_globs.specs.internal.Compiled.{items_match}

-- ---- what is left of a list

module _ {X : Type 0} where
  -- what is lent from an index on
  pub lent_from : (xs : List X) (i : ℕ) → take (length xs - i) (drop i xs) ≡ drop i xs
  lent_from xs i = take_all (length xs - i) (drop i xs) (omega (arith, length-drop i xs))

-- ---- tests of some rest of a list

neither : (a b : Bool) → (a || b) ≡ false → (a ≡ false) × (b ≡ false)
neither true b e = absurd (let bad : true ≡ false = e in cc)
neither false b e = (refl, e)

module _ {X : Type 0} where
  -- tests that answer alike do so of the rests of a list
  pub some_alike : (f g : List X → Bool) → ((xs : List X) → f xs ≡ g xs) → (xs : List X) → some_rest f xs ≡ some_rest g xs
  some_alike f g alike [] = alike []
  some_alike f g alike (x ∷ xs) = ap (λ b. b || some_rest f xs) (alike (x ∷ xs)) ∙ ap (λ b. g (x ∷ xs) || b) (some_alike f g alike xs)

  pub first_alike : (first : X → Bool) (f g : List X → Bool) → ((xs : List X) → f xs ≡ g xs) → (xs : List X) → first_then first f xs ≡ first_then first g xs
  first_alike first f g alike [] = refl
  first_alike first f g alike (x ∷ xs) = ap (λ b. first x && b) (alike xs)

  pub first_so : (first second : X → Bool) (test : List X → Bool) → ((x : X) → first x ≡ second x) → (xs : List X) → first_then first test xs ≡ first_then second test xs
  first_so first second test alike [] = refl
  first_so first second test alike (x ∷ xs) = ap (λ b. b && test xs) (alike x)

  -- a list that passes is a rest of itself
  pub some_first : (test : List X → Bool) (xs : List X) → test xs ≡ true → some_rest test xs ≡ true
  some_first test [] e = e
  some_first test (x ∷ xs) e = ap (λ b. b || some_rest test xs) e

  -- some rest of each list is empty
  pub some_empty : (xs : List X) → some_rest is_none_left xs ≡ true
  some_empty [] = refl
  some_empty (x ∷ xs) = some_empty xs

  -- where no rest passes, none does after a first item
  none_before : (first : X → Bool) (test : List X → Bool) (x : X) (xs : List X) → some_rest test xs ≡ false → some_rest (first_then first test) (x ∷ xs) ≡ false
  none_before first test x [] none = ap (λ b. (first x && b) || false) none ∙ ap (λ b. b || false) (and-false (first x))
  none_before first test x (y ∷ ys) none =
      let both = neither (test (y ∷ ys)) (some_rest test ys) none in
      ap (λ b. (first x && b) || some_rest (first_then first test) (y ∷ ys)) both.0
      ∙ ap (λ b. b || some_rest (first_then first test) (y ∷ ys)) (and-false (first x))
      ∙ none_before first test y ys both.1

  -- nor has a rest a rest that does
  none_twice : (test : List X → Bool) (xs : List X) → some_rest test xs ≡ false → some_rest (some_rest test) xs ≡ false
  none_twice test [] none = none
  none_twice test (x ∷ xs) none =
      ap (λ b. b || some_rest (some_rest test) xs) none ∙ none_twice test xs (neither (test (x ∷ xs)) (some_rest test xs) none).1

  -- a list passes one test where some rest of another passes another; if that says no, no
  -- rest of the list passes
  some_so : (test more : List X → Bool) (xs ys : List X) → test xs ≡ some_rest more ys → (some_rest more ys ≡ false → some_rest test xs ≡ false) → some_rest test xs ≡ some_rest more ys
  some_so test more xs ys same none =
      elim (some_rest more ys) as (λ b. test xs ≡ b → (b ≡ false → some_rest test xs ≡ false) → some_rest test xs ≡ b) [
        | true ↦ λ is no. some_first test xs is
        | false ↦ λ is no. no refl
      ] same none

-- ---- one stretch

module _ {E X : Type 0} (is_any : E → Bool) (takes : E → X → Bool) where
  -- the pattern matches the items where what is left of it matches those that are left; and
  -- if it matches no rest of these, the pattern matches no rest of all
  abbrev pub Leads : List E → List X → List E → List X → Type 0
  Leads es xs more ys =
      (items_match is_any takes es xs ≡ items_match is_any takes more ys)
      × (some_rest (items_match is_any takes more) ys ≡ false → some_rest (items_match is_any takes es) xs ≡ false)

  module _ (es : List E) (xs : List X) (at : ℕ) (e : E) (there : drop at es ≡ e ∷ drop (at + 1) es) (left : List X) (leads : Leads es xs (drop at es) left) where
    -- the member that comes next matches any number of items
    pub any_next : is_any e ≡ true
        → (items_match is_any takes es xs ≡ some_rest (items_match is_any takes (drop (at + 1) es)) left)
        × (some_rest (items_match is_any takes es) xs ≡ some_rest (items_match is_any takes (drop (at + 1) es)) left)
    any_next any =
        let more = items_match is_any takes (drop (at + 1) es) in
        let step : (zs : List X) → items_match is_any takes (drop at es) zs ≡ some_rest more zs =
        λ zs. ap (λ ds. items_match is_any takes ds zs) there ∙ ap (λ b. cond b (some_rest more zs) (first_then (takes e) more zs)) any in
        let same : items_match is_any takes es xs ≡ some_rest more left = leads.0 ∙ step left in
        (same, some_so (items_match is_any takes es) more xs left same (λ none. leads.1 (some_alike (items_match is_any takes (drop at es)) (some_rest more) step left ∙ none_twice more left none)))

    module _ (one : is_any e ≡ false) where
      step : (zs : List X) → items_match is_any takes (drop at es) zs ≡ first_then (takes e) (items_match is_any takes (drop (at + 1) es)) zs
      step zs =
          let more = items_match is_any takes (drop (at + 1) es) in
          ap (λ ds. items_match is_any takes ds zs) there ∙ ap (λ b. cond b (some_rest more zs) (first_then (takes e) more zs)) one

      -- it takes the item that comes next
      pub one_next : (x : X) (ys : List X) → left ≡ x ∷ ys → takes e x ≡ true → Leads es xs (drop (at + 1) es) ys
      one_next x ys cut took =
          let more = items_match is_any takes (drop (at + 1) es) in (
            leads.0 ∙ step left ∙ ap (first_then (takes e) more) cut ∙ ap (λ b. b && more ys) took,
            λ none. leads.1 (some_alike (items_match is_any takes (drop at es)) (first_then (takes e) more) step left ∙ ap (some_rest (first_then (takes e) more)) cut ∙ none_before (takes e) more x ys none),
          )

      -- it does not take it
      pub one_apart : (x : X) (ys : List X) → left ≡ x ∷ ys → takes e x ≡ false → items_match is_any takes es xs ≡ false
      one_apart x ys cut apart =
          let more = items_match is_any takes (drop (at + 1) es) in
          leads.0 ∙ step left ∙ ap (first_then (takes e) more) cut ∙ ap (λ b. b && more ys) apart

  module _ (es : List E) (xs : List X) (at : ℕ) (over : length es ≤ at) (left : List X) (leads : Leads es xs (drop at es) left) where
    -- no member is left, and no item
    pub ends_both : left ≡ [] → (items_match is_any takes es xs ≡ true) × (some_rest (items_match is_any takes es) xs ≡ true)
    ends_both none =
        let same : items_match is_any takes es xs ≡ true = leads.0 ∙ ap (λ ds. items_match is_any takes ds left) (drop_all at es over) ∙ ap is_none_left none in
        (same, some_first (items_match is_any takes es) xs same)

    -- an item is
    pub ends_before : (x : X) (ys : List X) → left ≡ x ∷ ys → items_match is_any takes es xs ≡ false
    ends_before x ys some = leads.0 ∙ ap (λ ds. items_match is_any takes ds left) (drop_all at es over) ∙ ap is_none_left some

  -- nothing is left of the pattern
  pub whole : (es : List E) (xs : List X) → length es ≡ 0 → some_rest (items_match is_any takes es) xs ≡ true
  whole [] xs none = some_alike (items_match is_any takes []) is_none_left (λ ys. refl) xs ∙ some_empty xs
  whole (e ∷ es) xs none = absurd (omega (arith, none))
