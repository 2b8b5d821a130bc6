-- The last part of a pattern beside the last name of a path.
use Rattle.std.proofs.Common.{◌≡◌, ℕ, suc, zero, ◌+◌, ◌-◌, ◌<◌, Bool, true, false, cond, ◌&&◌, ◌||◌, nat_eq, List, [], ◌∷◌, ◌++◌, take, drop, length, refl, sym, ap, ◌∙◌, arith, add-one}
use Rattle.std.proofs.Math.Bool.{and-false, or-true}
use Rattle.std.proofs.lemmas.List.{length-drop, take_all}
use Rattle.std.specs.List.{onto_first, slice_index_or}
use Rattle.eden_ids.specs.Paths.{components}
use Rattle.eden_globs.specs.Filters.{ends_in_any_names, first_then, is_any_names, is_none_left, name_matches, path_matches, some_rest}
use Rattle.eden_globs.specs.declared.pattern.Part.{Part}
use Rattle.eden_globs.specs.internal.Compiled.{AreParts, EndsIn, IsPartOf, is_any_names_part, part_matches}
use Rattle.eden_globs.proofs.Splitting.{drop_none, here, later, no_slash}
use Rattle.eden_globs.proofs.Tokens.{each_matches}

-- ---- the bytes after the last slash

-- a name comes last, after at least one other
abbrev EndsLater : List (List ℕ) → List ℕ → Type 0
EndsLater names name = (first : List ℕ) × ((more : List (List ℕ)) × (names ≡ first ∷ (more ++ name ∷ [])))

last_slash : (bytes : List ℕ) (at : ℕ) → at < length bytes → nat_eq (slice_index_or bytes at 0) 47 ≡ true → ((i : ℕ) → at < i → i < length bytes → nat_eq (slice_index_or bytes i 0) 47 ≡ false)
    → EndsLater (components bytes) (drop (suc at) bytes)
last_slash [] at within is none = absurd (omega arith)
last_slash (b ∷ bytes) zero within is none =
    ([], ([], here b bytes is ∙ ap (λ ps. [] ∷ ps) (no_slash bytes (λ i low. none (suc i) (omega arith) (omega (arith, low)))) ∙ ap (λ bs. [] ∷ bs ∷ []) (sym (drop_none bytes))))
last_slash (b ∷ bytes) (suc at) within is none =
    let more = last_slash bytes at (omega arith) is (λ i high low. none (suc i) (omega (arith, high)) (omega (arith, low))) in
    elim (nat_eq b 47) as (λ t. nat_eq b 47 ≡ t → EndsLater (components (b ∷ bytes)) (drop (suc at) bytes)) [
      | true ↦ λ e. ([], (more.0 ∷ more.1.0, here b bytes e ∙ ap (λ ps. [] ∷ ps) more.1.1))
      | false ↦ λ e. (b ∷ more.0, (more.1.0, later b bytes e ∙ ap (onto_first b) more.1.1))
    ] refl

pub behind_last : (bytes : List ℕ) (at : ℕ) → at < length bytes → nat_eq (slice_index_or bytes at 0) 47 ≡ true → ((i : ℕ) → at < i → i < length bytes → nat_eq (slice_index_or bytes i 0) 47 ≡ false)
    → EndsIn (components bytes) (take (length bytes - (at + 1)) (drop (at + 1) bytes))
behind_last bytes at within is none =
    let more = last_slash bytes at within is none in
    let all : drop (suc at) bytes ≡ take (length bytes - (at + 1)) (drop (at + 1) bytes) =
    ap (λ n. drop n bytes) (sym (add-one at)) ∙ sym (take_all (length bytes - (at + 1)) (drop (at + 1) bytes) (omega (arith, length-drop (at + 1) bytes))) in
    (more.0 ∷ more.1.0, more.1.1 ∙ ap (λ n. more.0 ∷ (more.1.0 ++ n ∷ [])) all)

pub only_name : (bytes : List ℕ) → ((i : ℕ) → i < length bytes → nat_eq (slice_index_or bytes i 0) 47 ≡ false) → EndsIn (components bytes) bytes
only_name bytes none = ([], no_slash bytes none)

-- ---- a path whose last name the last part does not match

module _ (text name : List ℕ) (named : is_any_names text ≡ false) (apart : name_matches false text name ≡ false) where
  some_left : (names : List (List ℕ)) → is_none_left (names ++ name ∷ []) ≡ false
  some_left [] = refl
  some_left (n ∷ names) = refl

  some_none : (test : List (List ℕ) → Bool) → test [] ≡ false → ((names : List (List ℕ)) → test (names ++ name ∷ []) ≡ false) → (names : List (List ℕ)) → some_rest test (names ++ name ∷ []) ≡ false
  some_none test none fails [] = ap (λ b. b || test []) (fails []) ∙ none
  some_none test none fails (n ∷ names) = ap (λ b. b || some_rest test (names ++ name ∷ [])) (fails (n ∷ names)) ∙ some_none test none fails names

  none_empty : (texts : List (List ℕ)) → path_matches (texts ++ text ∷ []) [] ≡ false
  none_empty [] = ap (λ b. cond b (some_rest (path_matches []) []) (first_then (name_matches false text) (path_matches []) [])) named
  none_empty (t ∷ texts) =
      elim (is_any_names t) as (λ b. cond b (some_rest (path_matches (texts ++ text ∷ [])) []) (first_then (name_matches false t) (path_matches (texts ++ text ∷ [])) []) ≡ false) [
        | true ↦ none_empty texts
        | false ↦ refl
      ]

  refused : (texts names : List (List ℕ)) → path_matches (texts ++ text ∷ []) (names ++ name ∷ []) ≡ false
  refused [] [] = ap (λ b. cond b (some_rest (path_matches []) (name ∷ [])) (first_then (name_matches false text) (path_matches []) (name ∷ []))) named ∙ ap (λ b. b && true) apart
  refused [] (n ∷ names) =
      ap (λ b. cond b (some_rest (path_matches []) (n ∷ (names ++ name ∷ []))) (first_then (name_matches false text) (path_matches []) (n ∷ (names ++ name ∷ [])))) named
      ∙ ap (λ b. name_matches false text n && b) (some_left names) ∙ and-false (name_matches false text n)
  refused (t ∷ texts) [] =
      elim (is_any_names t) as (λ b. cond b (some_rest (path_matches (texts ++ text ∷ [])) (name ∷ [])) (first_then (name_matches false t) (path_matches (texts ++ text ∷ [])) (name ∷ [])) ≡ false) [
        | true ↦ ap (λ b. b || path_matches (texts ++ text ∷ []) []) (refused texts []) ∙ none_empty texts
        | false ↦ ap (λ b. name_matches false t name && b) (none_empty texts) ∙ and-false (name_matches false t name)
      ]
  refused (t ∷ texts) (n ∷ names) =
      elim (is_any_names t) as (λ b. cond b (some_rest (path_matches (texts ++ text ∷ [])) (n ∷ (names ++ name ∷ []))) (first_then (name_matches false t) (path_matches (texts ++ text ∷ [])) (n ∷ (names ++ name ∷ []))) ≡ false) [
        | true ↦ some_none (path_matches (texts ++ text ∷ [])) (none_empty texts) (refused texts) (n ∷ names)
        | false ↦ ap (λ b. name_matches false t n && b) (refused texts names) ∙ and-false (name_matches false t n)
      ]

is_named : (text name : List ℕ) → name_matches false text name ≡ false → is_any_names text ≡ false
is_named text name apart =
    elim (is_any_names text) as (λ b. is_any_names text ≡ b → b ≡ false) [
      | true ↦ λ e. each_matches text e name ∙ apart
      | false ↦ λ e. refl
    ] refl

last_text : (parts : List Part) (part : Part) (texts : List (List ℕ)) → AreParts (parts ++ part ∷ []) texts
    → (front : List (List ℕ)) × ((text : List ℕ) × ((texts ≡ front ++ text ∷ []) × IsPartOf part text))
last_text [] part [] are = absurd are
last_text [] part (t ∷ []) are = ([], (t, (refl, are.0)))
last_text [] part (t ∷ s ∷ texts) are = absurd are.1
last_text (p ∷ parts) part [] are = absurd are
last_text (p ∷ parts) part (t ∷ texts) are =
    let more = last_text parts part texts are.1 in
    (t ∷ more.0, (more.1.0, (ap (λ ts. t ∷ ts) more.1.1.0, more.1.1.1)))

pub end_refused : (parts : List Part) (part : Part) (name : List ℕ) → part_matches part name ≡ false → (texts names : List (List ℕ)) → AreParts (parts ++ part ∷ []) texts → EndsIn names name
    → path_matches texts names ≡ false
end_refused parts part name unlike texts names are ends =
    let last = last_text parts part texts are in
    let apart : name_matches false last.1.0 name ≡ false = sym (last.1.1.1.1 name) ∙ unlike in
    ap (λ ts. path_matches ts names) last.1.1.0 ∙ ap (path_matches (last.0 ++ last.1.0 ∷ [])) ends.1 ∙ refused last.1.0 name (is_named last.1.0 name apart) apart last.0 ends.0

-- ---- a path whose last name the last part matches, after a `**`

last_matched : (text name : List ℕ) → name_matches false text name ≡ true → path_matches (text ∷ []) (name ∷ []) ≡ true
last_matched text name e =
    elim (is_any_names text) as (λ b. cond b (some_rest (path_matches []) (name ∷ [])) (name_matches false text name && true) ≡ true) [
      | true ↦ refl
      | false ↦ ap (λ b. b && true) e
    ]

rest_matched : (test : List (List ℕ) → Bool) (name : List ℕ) → test (name ∷ []) ≡ true → (front : List (List ℕ)) → some_rest test (front ++ name ∷ []) ≡ true
rest_matched test name e [] = ap (λ b. b || test []) e
rest_matched test name e (n ∷ front) = ap (λ b. test (n ∷ (front ++ name ∷ [])) || b) (rest_matched test name e front) ∙ or-true (test (n ∷ (front ++ name ∷ [])))

pub one_alone : (parts : List Part) (part : Part) → length parts ≡ 1 → part ≡ slice_index_or parts 0 part → parts ≡ part ∷ []
one_alone [] part one is = absurd (omega (arith, one))
one_alone (p ∷ []) part one is = ap (λ q. q ∷ []) (sym is)
one_alone (p ∷ q ∷ parts) part one is = absurd (omega (arith, one))

pub end_matched : (first last : Part) (name : List ℕ) → is_any_names_part first ≡ true → part_matches last name ≡ true → (texts names : List (List ℕ)) → AreParts (first ∷ last ∷ []) texts → EndsIn names name
    → path_matches texts names ≡ true
end_matched first last name any alike [] names are ends = absurd are
end_matched first last name any alike (t ∷ []) names are ends = absurd are.1
end_matched first last name any alike (t ∷ u ∷ s ∷ texts) names are ends = absurd are.1.1
end_matched first last name any alike (t ∷ u ∷ []) names are ends =
    ap (λ b. cond b (some_rest (path_matches (u ∷ [])) names) (first_then (name_matches false t) (path_matches (u ∷ [])) names)) (sym are.0.0 ∙ any)
    ∙ ap (some_rest (path_matches (u ∷ []))) ends.1
    ∙ rest_matched (path_matches (u ∷ [])) name (last_matched u name (sym (are.1.0.1 name) ∙ alike)) ends.0

-- ---- the last part

ends_so : (front : List (List ℕ)) (text : List ℕ) → ends_in_any_names (front ++ text ∷ []) ≡ is_any_names text
ends_so [] text = refl
ends_so (t ∷ []) text = refl
ends_so (t ∷ s ∷ front) text = ends_so (s ∷ front) text

pub last_any : (parts : List Part) (part : Part) (texts : List (List ℕ)) → AreParts (parts ++ part ∷ []) texts → is_any_names_part part ≡ ends_in_any_names texts
last_any parts part texts are =
    let last = last_text parts part texts are in
    last.1.1.1.0 ∙ sym (ends_so last.0 last.1.0) ∙ ap ends_in_any_names (sym last.1.1.0)

pub no_last : (texts : List (List ℕ)) → AreParts [] texts → false ≡ ends_in_any_names texts
no_last [] are = refl
no_last (t ∷ texts) are = absurd are
