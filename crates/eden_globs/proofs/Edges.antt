-- What a path begins and ends with, beside its first and its last name.
use Rattle.std.proofs.Common.{◌≡◌, ◌⊎◌, inl, inr, ℕ, Bool, true, false, ◌&&◌, ◌||◌, nat_eq, List, [], ◌∷◌, ◌++◌, refl, sym, ap, ◌∙◌, append_assoc}
use Rattle.std.proofs.Math.Bool.{or-true}
use Rattle.std.proofs.lemmas.Bool.{and_parts}
use Rattle.std.proofs.lemmas.List.{append-nil}
use Rattle.std.proofs.lemmas.List.Splits.{join_with_byte-slice_split}
use Rattle.std.specs.Global.{Vec}
use Rattle.std.specs.List.{ends_with, join_with_byte, starts_with}
use Rattle.eden_ids.specs.Paths.{components}
use Rattle.eden_ids.specs.Sameness.{same_bytes}
use Rattle.eden_ids.proofs.ByteOrder.{begins_with_none}
use Rattle.eden_globs.specs.Filters.{some_rest}
use Rattle.eden_globs.specs.declared.pattern.Part.{Part}
use Rattle.eden_globs.specs.declared.pattern.Part.TheVariants.{Name, Prefix, Suffix}
use Rattle.eden_globs.specs.internal.Compiled.{EndsIn, part_matches}
use Rattle.eden_globs.proofs.Entering.{first_part}
use Rattle.eden_globs.proofs.Stretches.{some_first}
use Rattle.eden_globs.proofs.Tokens.{ending_some}

-- ---- a path has its first name at its front, and its last one at its end

path_first : (path name : List ℕ) (names : List (List ℕ)) → components path ≡ name ∷ names → (more : List ℕ) × (path ≡ name ++ more)
path_first path name names cut = by names (sym (join_with_byte-slice_split 47 path) ∙ ap (join_with_byte 47) cut)
  where
    by : (ns : List (List ℕ)) → path ≡ join_with_byte 47 (name ∷ ns) → (more : List ℕ) × (path ≡ name ++ more)
    by [] e = ([], e ∙ sym (append-nil name))
    by (n ∷ ns) e = (47 ∷ join_with_byte 47 (n ∷ ns), e)

joined_last : (names : List (List ℕ)) (name : List ℕ) → (front : List ℕ) × (join_with_byte 47 (names ++ name ∷ []) ≡ front ++ name)
joined_last [] name = ([], refl)
joined_last (n ∷ []) name = (n ++ 47 ∷ [], sym (append_assoc n (47 ∷ []) name))
joined_last (n ∷ m ∷ names) name =
    let more = joined_last (m ∷ names) name in
    (n ++ 47 ∷ more.0, ap (λ bytes. n ++ 47 ∷ bytes) more.1 ∙ sym (append_assoc n (47 ∷ more.0) name))

path_last : (path name : List ℕ) → EndsIn (components path) name → (front : List ℕ) × (path ≡ front ++ name)
path_last path name ends =
    let joined = joined_last ends.0 name in
    (joined.0, sym (join_with_byte-slice_split 47 path) ∙ ap (join_with_byte 47) ends.1 ∙ joined.1)

-- it has a last name
pub some_last : (path : List ℕ) → (name : List ℕ) × EndsIn (components path) name
some_last path =
    let some = first_part path in
    let last = by some.0 some.1.0 in
    (last.0, (last.1.0, some.1.1 ∙ last.1.1))
  where
    by : (first : List ℕ) (rest : List (List ℕ)) → (name : List ℕ) × EndsIn (first ∷ rest) name
    by first [] = (first, ([], refl))
    by first (n ∷ rest) =
        let more = by n rest in
        (more.0, (first ∷ more.1.0, ap (λ ns. first ∷ ns) more.1.1))

-- ---- what a name begins with, a path that begins with the name does

same_begins : (bytes name : List ℕ) → same_bytes bytes name ≡ true → starts_with nat_eq name bytes ≡ true
same_begins [] name is = begins_with_none name
same_begins (b ∷ bytes) [] is = absurd (let bad : false ≡ true = is in cc)
same_begins (b ∷ bytes) (n ∷ name) is =
    let both = and_parts (nat_eq b n) (same_bytes bytes name) is in
    ap (λ t. t && starts_with nat_eq name bytes) both.0 ∙ same_begins bytes name both.1

begins_more : (bytes name more : List ℕ) → starts_with nat_eq name bytes ≡ true → starts_with nat_eq (name ++ more) bytes ≡ true
begins_more [] name more is = begins_with_none (name ++ more)
begins_more (b ∷ bytes) [] more is = absurd (let bad : false ≡ true = is in cc)
begins_more (b ∷ bytes) (n ∷ name) more is =
    let both = and_parts (nat_eq b n) (starts_with nat_eq name bytes) is in
    ap (λ t. t && starts_with nat_eq (name ++ more) bytes) both.0 ∙ begins_more bytes name more both.1

rests_more : (test : List ℕ → Bool) (front name : List ℕ) → some_rest test name ≡ true → some_rest test (front ++ name) ≡ true
rests_more test [] name is = is
rests_more test (b ∷ front) name is = ap (λ t. test (b ∷ (front ++ name)) || t) (rests_more test front name is) ∙ or-true (test (b ∷ (front ++ name)))

unless : (a b : Bool) → (a ≡ true → b ≡ true) → b ≡ false → a ≡ false
unless false b so none = refl
unless true b so none = absurd (let bad : true ≡ false = sym (so refl) ∙ none in cc)

-- a path that does not begin with these bytes has no first name that does
first_apart : (bytes path name : List ℕ) (names : List (List ℕ)) → components path ≡ name ∷ names → starts_with nat_eq path bytes ≡ false
    → (same_bytes bytes name ≡ false) × (starts_with nat_eq name bytes ≡ false)
first_apart bytes path name names cut apart =
    let more = path_first path name names cut in
    let none : starts_with nat_eq name bytes ≡ false =
    unless (starts_with nat_eq name bytes) (starts_with nat_eq path bytes) (λ is. ap (λ p. starts_with nat_eq p bytes) more.1 ∙ begins_more bytes name more.0 is) apart in
    (unless (same_bytes bytes name) (starts_with nat_eq name bytes) (same_begins bytes name) none, none)

-- nor one that does not end with these bytes a last name that does
last_apart : (bytes path name : List ℕ) → EndsIn (components path) name → ends_with nat_eq path bytes ≡ false
    → (same_bytes bytes name ≡ false) × (ends_with nat_eq name bytes ≡ false)
last_apart bytes path name ends apart =
    let front = path_last path name ends in
    let none : some_rest (same_bytes bytes) name ≡ false =
    unless (some_rest (same_bytes bytes) name) (ends_with nat_eq path bytes)
    (λ is. ap (λ p. ends_with nat_eq p bytes) front.1 ∙ ending_some bytes (front.0 ++ name) ∙ rests_more (same_bytes bytes) front.0 name is) apart in
    (unless (same_bytes bytes name) (some_rest (same_bytes bytes) name) (some_first (same_bytes bytes) name) none, ending_some bytes name ∙ none)

-- so a part of which this is known refuses the path
pub first_refused : (part : Part) (bytes : Vec ℕ) (path name : List ℕ) (names : List (List ℕ)) → (part ≡ Name bytes) ⊎ (part ≡ Prefix bytes) → components path ≡ name ∷ names → starts_with nat_eq path bytes.items ≡ false
    → part_matches part name ≡ false
first_refused part bytes path name names (inl is) cut apart = ap (λ p. part_matches p name) is ∙ (first_apart bytes.items path name names cut apart).0
first_refused part bytes path name names (inr is) cut apart = ap (λ p. part_matches p name) is ∙ (first_apart bytes.items path name names cut apart).1

pub last_refused : (part : Part) (bytes : Vec ℕ) (path name : List ℕ) → (part ≡ Name bytes) ⊎ (part ≡ Suffix bytes) → EndsIn (components path) name → ends_with nat_eq path bytes.items ≡ false
    → part_matches part name ≡ false
last_refused part bytes path name (inl is) ends apart = ap (λ p. part_matches p name) is ∙ (last_apart bytes.items path name ends apart).0
last_refused part bytes path name (inr is) ends apart = ap (λ p. part_matches p name) is ∙ (last_apart bytes.items path name ends apart).1
