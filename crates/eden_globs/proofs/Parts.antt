-- The parts of a pattern beside their texts, and the names of a path, one after another.
use Rattle.std.proofs.Common.{◌≡◌, ℕ, suc, zero, ◌+◌, ◌<◌, ◌≤◌, Bool, true, false, cond, ◌&&◌, ◌||◌, List, [], ◌∷◌, drop, length, refl, subst, sym, ap, ◌∙◌, arith, add-one}
use Rattle.std.proofs.lemmas.List.{drop_all}
use Rattle.std.proofs.lemmas.Slice.Zip.{AllZip-long}
use Rattle.std.specs.Global.{Vec}
use Rattle.std.specs.List.{AllZip, list_any, slice_index_or}
use Rattle.eden_ids.specs.Paths.{components}
use Rattle.eden_globs.specs.Filters.{first_then, is_any_names, name_matches, parts_enter, path_matches, some_rest}
use Rattle.eden_globs.specs.declared.pattern.Part.{Part}
use Rattle.eden_globs.specs.internal.Compiled.{AreCompiled, AreParts, IsPartOf, is_any_names_part, part_matches, parts_match}
use Rattle.eden_globs.proofs.Splitting.{drop_none}
use Rattle.eden_globs.proofs.Stretches.{first_alike, first_so, some_alike}

-- ---- parts and texts

module _ {X : Type 0} where
  drop_one : (x : X) (xs : List X) (i : ℕ) → drop (i + 1) (x ∷ xs) ≡ drop i xs
  drop_one x xs i = ap (λ n. drop n (x ∷ xs)) (add-one i)

module _ {A B : Type 0} (R : A → B → Type 0) where
  here : (xs : List A) (ys : List B) → AllZip R xs ys → (i : ℕ) (d : A) → i < length xs → (y : B) × ((drop i ys ≡ y ∷ drop (i + 1) ys) × R (slice_index_or xs i d) y)
  here [] ys are i d within = absurd (omega arith)
  here (x ∷ xs) [] are i d within = absurd are
  here (x ∷ xs) (y ∷ ys) are zero d within = (y, (ap (λ zs. y ∷ zs) (sym (drop_none ys)), are.0))
  here (x ∷ xs) (y ∷ ys) are (suc i) d within =
      let more = here xs ys are.1 i d (omega arith) in
      (more.0, (more.1.0 ∙ ap (λ zs. more.0 ∷ zs) (sym (drop_one y ys (suc i) ∙ ap (λ n. drop n ys) (sym (add-one i)))), more.1.1))

  -- what is beside an item, and those after it
  pub beside : (xs : List A) (ys : List B) → AllZip R xs ys → (i : ℕ) (x : A) → i < length xs → x ≡ slice_index_or xs i x → (y : B) × ((drop i ys ≡ y ∷ drop (i + 1) ys) × R x y)
  beside xs ys are i x within is =
      let there = here xs ys are i x within in
      (there.0, (there.1.0, subst (λ z. R z there.0) (sym is) there.1.1))

  -- nothing is left after the last item
  pub over : (xs : List A) (ys : List B) → AllZip R xs ys → (i : ℕ) → length xs ≤ i → drop i ys ≡ []
  over xs ys are i high = drop_all i ys (omega (arith, high, AllZip-long R xs ys are))

-- the text of a part, and those after it
pub part_at : (parts : List Part) (texts : List (List ℕ)) → AreParts parts texts → (i : ℕ) (part : Part) → i < length parts → part ≡ slice_index_or parts i part
    → (text : List ℕ) × ((drop i texts ≡ text ∷ drop (i + 1) texts) × IsPartOf part text)
part_at parts texts are i part within is = beside IsPartOf parts texts are i part within is

pub texts_over : (parts : List Part) (texts : List (List ℕ)) → AreParts parts texts → (i : ℕ) → length parts ≤ i → drop i texts ≡ []
texts_over parts texts are i high = over IsPartOf parts texts are i high

-- parts match what their texts do
pub parts_as_texts : (parts : List Part) (texts : List (List ℕ)) → AreParts parts texts → (names : List (List ℕ)) → parts_match parts names ≡ path_matches texts names
parts_as_texts [] [] are names = refl
parts_as_texts [] (t ∷ texts) are names = absurd are
parts_as_texts (p ∷ parts) [] are names = absurd are
parts_as_texts (p ∷ parts) (t ∷ texts) are names =
    ap (λ b. cond b (some_rest (parts_match parts) names) (first_then (part_matches p) (parts_match parts) names)) are.0.0
    ∙ ap (λ r. cond (is_any_names t) r (first_then (part_matches p) (parts_match parts) names)) (some_alike (parts_match parts) (path_matches texts) (parts_as_texts parts texts are.1) names)
    ∙ ap (λ r. cond (is_any_names t) (some_rest (path_matches texts) names) r)
    (first_alike (part_matches p) (parts_match parts) (path_matches texts) (parts_as_texts parts texts are.1) names ∙ first_so (part_matches p) (name_matches false t) (path_matches texts) are.0.1 names)

-- ---- a directory held against the first part that is left

pub enters_any : (part : Part) (text : List ℕ) (texts names : List (List ℕ)) → IsPartOf part text → is_any_names_part part ≡ true → parts_enter (text ∷ texts) names ≡ true
enters_any part text texts [] of any = refl
enters_any part text texts (n ∷ names) of any = ap (λ b. b || (name_matches false text n && parts_enter texts names)) (sym of.0 ∙ any)

pub enters_named : (part : Part) (text : List ℕ) (texts : List (List ℕ)) (name : List ℕ) (names : List (List ℕ)) → IsPartOf part text → is_any_names_part part ≡ false
    → parts_enter (text ∷ texts) (name ∷ names) ≡ (part_matches part name && parts_enter texts names)
enters_named part text texts name names of named =
    ap (λ b. b || (name_matches false text name && parts_enter texts names)) (sym of.0 ∙ named) ∙ ap (λ b. b && parts_enter texts names) (sym (of.1 name))

-- ---- patterns, one after another

abbrev PartsOf : Vec Part → List ℕ → Type 0
PartsOf parts pattern = AreParts parts.items (components pattern)

module _ (compiled : List (Vec Part)) (patterns : List (List ℕ)) (are : AreCompiled compiled patterns) (test : List ℕ → Bool) (i : ℕ) (parts : Vec Part) (within : i < length compiled)
    (is : parts ≡ slice_index_or compiled i parts) where
  one : (pattern : List ℕ) × ((drop i patterns ≡ pattern ∷ drop (i + 1) patterns) × PartsOf parts pattern)
  one = beside PartsOf compiled patterns are i parts within is

  -- where a pattern passes, some does
  pub any_here : ((pattern : List ℕ) → PartsOf parts pattern → test pattern ≡ true) → list_any test (drop i patterns) ≡ true
  any_here pass = ap (list_any test) one.1.0 ∙ ap (λ b. b || list_any test (drop (i + 1) patterns)) (pass one.0 one.1.1)

  -- if it does not, one after it has to
  pub any_later : ((pattern : List ℕ) → PartsOf parts pattern → test pattern ≡ false) → list_any test (drop (i + 1) patterns) ≡ list_any test (drop i patterns)
  any_later fails = sym (ap (λ b. b || list_any test (drop (i + 1) patterns)) (fails one.0 one.1.1)) ∙ ap (list_any test) (sym one.1.0)

pub any_over : (compiled : List (Vec Part)) (patterns : List (List ℕ)) → AreCompiled compiled patterns → (test : List ℕ → Bool) (i : ℕ) → length compiled ≤ i → false ≡ list_any test (drop i patterns)
any_over compiled patterns are test i high = ap (list_any test) (sym (over PartsOf compiled patterns are i high))
