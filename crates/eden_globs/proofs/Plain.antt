-- What a pattern admits in which each byte stands for itself.
use Rattle.std.proofs.Common.{◌≡◌, ℕ, Bool, true, false, cond, not, ◌&&◌, ◌||◌, nat_eq, List, [], ◌∷◌, ◌++◌, codes, refl, subst, sym, ap, ◌∙◌, arith}
use Rattle.std.proofs.lemmas.List.{append-nil}
use Rattle.std.specs.List.{list_any, onto_first, starts_with}
use Rattle.eden_ids.specs.Paths.{components, lies_below}
use Rattle.eden_ids.specs.Sameness.{same_bytes}
use Rattle.eden_globs.specs.Filters.{admits, first_then, including, is_any_names, is_none_left, is_plain, name_matches, path_matches, pattern_matches, some_rest}
use Rattle.eden_globs.proofs.Entering.{all_rests, first_part}
use Rattle.eden_globs.proofs.Splitting.{here, later}
use Rattle.std.proofs.Math.Bool.{and-true, or-false, and_assoc, and-or_distrib_left}
use Rattle.eden_ids.proofs.ByteOrder.{begins_with_none}

-- one pattern that is included
one_admits : (pattern path : List ℕ) → admits (including (pattern ∷ [])) path ≡ pattern_matches pattern path
one_admits pattern path = and-true (pattern_matches pattern path || false) ∙ or-false (pattern_matches pattern path)

pub any_admits : (path : List ℕ) → admits (including (codes "**" ∷ [])) path ≡ true
any_admits path = one_admits (codes "**") path ∙ all_rests (components path)

-- ---- a byte that stands for itself, before other bytes

plain_first : (b : ℕ) (rest : List ℕ) → is_plain (b ∷ rest) ≡ true → (nat_eq b 42 ≡ false) × (nat_eq b 63 ≡ false) × (nat_eq b 92 ≡ false) × (is_plain rest ≡ true)
plain_first b rest e = by (nat_eq b 42) (nat_eq b 63) (nat_eq b 92) (list_any (λ c. nat_eq c 42 || nat_eq c 63 || nat_eq c 92) rest) e
  where
    by : (x y z r : Bool) → not ((x || y || z) || r) ≡ true → (x ≡ false) × (y ≡ false) × (z ≡ false) × (not r ≡ true)
    by true y z r h = absurd (let bad : false ≡ true = h in cc)
    by false true z r h = absurd (let bad : false ≡ true = h in cc)
    by false false true r h = absurd (let bad : false ≡ true = h in cc)
    by false false false r h = (refl, refl, refl, h)

-- such a byte is matched by itself alone
itself : (b : ℕ) (part name : List ℕ) → nat_eq b 42 ≡ false → nat_eq b 63 ≡ false → nat_eq b 92 ≡ false
    → name_matches false (b ∷ part) name ≡ first_then (λ c. nat_eq b c) (name_matches false part) name
itself b part name star any backslash =
    ap (λ t. cond t (name_matches true part name) (cond (nat_eq b 42) (some_rest (name_matches false part) name) (cond (nat_eq b 63) (first_then (λ c. true) (name_matches false part) name) (first_then (λ c. nat_eq b c) (name_matches false part) name)))) backslash
    ∙ ap (λ t. cond t (some_rest (name_matches false part) name) (cond (nat_eq b 63) (first_then (λ c. true) (name_matches false part) name) (first_then (λ c. nat_eq b c) (name_matches false part) name))) star
    ∙ ap (λ t. cond t (first_then (λ c. true) (name_matches false part) name) (first_then (λ c. nat_eq b c) (name_matches false part) name)) any

-- a part that begins with it stands for one name
one_name : (b : ℕ) (part : List ℕ) → nat_eq b 42 ≡ false → is_any_names (b ∷ part) ≡ false
one_name b part e = ap (λ t. t && same_bytes part (codes "*")) e

abbrev starts_star : List ℕ → Bool
starts_star [] = false
starts_star (b ∷ bytes) = nat_eq b 42

plain_start : (pattern more : List ℕ) → is_plain pattern ≡ true → starts_star more ≡ false → starts_star (pattern ++ more) ≡ false
plain_start [] more plain e = e
plain_start (b ∷ pattern) more plain e = (plain_first b pattern plain).0

-- the first part of bytes that do not begin with a star
named_first : (bytes : List ℕ) → starts_star bytes ≡ false → (first : List ℕ) × ((rest : List (List ℕ)) × ((components bytes ≡ first ∷ rest) × (is_any_names first ≡ false)))
named_first [] e = ([], ([], (refl, refl)))
named_first (b ∷ bytes) e = by (nat_eq b 47) refl
  where
    by : (t : Bool) → nat_eq b 47 ≡ t → (first : List ℕ) × ((rest : List (List ℕ)) × ((components (b ∷ bytes) ≡ first ∷ rest) × (is_any_names first ≡ false)))
    by true slash = ([], (components bytes, (here b bytes slash, refl)))
    by false slash =
        let more = first_part bytes in
        (b ∷ more.0, (more.1.0, (later b bytes slash ∙ ap (onto_first b) more.1.1, one_name b more.0 e)))

other_slash : (b c : ℕ) → nat_eq b 47 ≡ true → nat_eq c 47 ≡ false → nat_eq b c ≡ false
other_slash b c = grind arith

slash_other : (b c : ℕ) → nat_eq b 47 ≡ false → nat_eq c 47 ≡ true → nat_eq b c ≡ false
slash_other b c = grind arith

both_slashes : (b c : ℕ) → nat_eq b 47 ≡ true → nat_eq c 47 ≡ true → nat_eq b c ≡ true
both_slashes b c = grind arith

module _ (b : ℕ) (bytes first : List ℕ) (rest : List (List ℕ)) (star : nat_eq b 42 ≡ false) (any : nat_eq b 63 ≡ false) (backslash : nat_eq b 92 ≡ false)
    (parts : components bytes ≡ first ∷ rest) (name : is_any_names first ≡ false) where
  -- the parts of the bytes with the byte before them, held against no name and against names
  named : (names : List (List ℕ)) → path_matches (components bytes) names ≡ first_then (name_matches false first) (path_matches rest) names
  named names = ap (λ ps. path_matches ps names) parts
      ∙ ap (λ t. cond t (some_rest (path_matches rest) names) (first_then (name_matches false first) (path_matches rest) names)) name

  behind : (names : List (List ℕ)) → nat_eq b 47 ≡ false → path_matches (components (b ∷ bytes)) names ≡ first_then (name_matches false (b ∷ first)) (path_matches rest) names
  behind names e =
      ap (λ ps. path_matches ps names) (later b bytes e ∙ ap (onto_first b) parts)
      ∙ ap (λ t. cond t (some_rest (path_matches rest) names) (first_then (name_matches false (b ∷ first)) (path_matches rest) names)) (one_name b first star)

  slash_before : (names : List (List ℕ)) → nat_eq b 47 ≡ true → path_matches (components (b ∷ bytes)) names ≡ first_then is_none_left (path_matches (components bytes)) names
  slash_before names e = ap (λ ps. path_matches ps names) (here b bytes e)

  at_end : path_matches (components (b ∷ bytes)) (components []) ≡ false
  at_end = by (nat_eq b 47) refl
    where
      by : (t : Bool) → nat_eq b 47 ≡ t → path_matches (components (b ∷ bytes)) (components []) ≡ false
      by true e = slash_before (components []) e ∙ named []
      by false e = behind (components []) e ∙ ap (λ t. t && path_matches rest []) (itself b first [] star any backslash)

  at_byte : (c : ℕ) (path : List ℕ) → path_matches (components (b ∷ bytes)) (components (c ∷ path)) ≡ (nat_eq b c && path_matches (components bytes) (components path))
  at_byte c path = by (nat_eq b 47) (nat_eq c 47) refl refl
    where
      by : (t s : Bool) → nat_eq b 47 ≡ t → nat_eq c 47 ≡ s → path_matches (components (b ∷ bytes)) (components (c ∷ path)) ≡ (nat_eq b c && path_matches (components bytes) (components path))
      by true true e d =
          slash_before (components (c ∷ path)) e ∙ ap (first_then is_none_left (path_matches (components bytes))) (here c path d)
          ∙ sym (ap (λ t. t && path_matches (components bytes) (components path)) (both_slashes b c e d))
      by true false e d =
          slash_before (components (c ∷ path)) e ∙ ap (first_then is_none_left (path_matches (components bytes))) (later c path d ∙ ap (onto_first c) (first_part path).1.1)
          ∙ sym (ap (λ t. t && path_matches (components bytes) (components path)) (other_slash b c e d))
      by false true e d =
          behind (components (c ∷ path)) e ∙ ap (first_then (name_matches false (b ∷ first)) (path_matches rest)) (here c path d)
          ∙ ap (λ t. t && path_matches rest (components path)) (itself b first [] star any backslash)
          ∙ sym (ap (λ t. t && path_matches (components bytes) (components path)) (slash_other b c e d))
      by false false e d =
          behind (components (c ∷ path)) e ∙ ap (first_then (name_matches false (b ∷ first)) (path_matches rest)) (later c path d ∙ ap (onto_first c) (first_part path).1.1)
          ∙ ap (λ t. t && path_matches rest (first_part path).1.0) (itself b first (c ∷ (first_part path).0) star any backslash)
          ∙ and_assoc (nat_eq b c) (name_matches false first (first_part path).0) (path_matches rest (first_part path).1.0)
          ∙ sym (ap (λ t. nat_eq b c && t) (named (components path) ∙ ap (first_then (name_matches false first) (path_matches rest)) (first_part path).1.1))

-- ---- the pattern alone

none_is_slash : (c : ℕ) (path : List ℕ) → path_matches (components []) (components (c ∷ path)) ≡ false
none_is_slash c path = by (nat_eq c 47) refl
  where
    by : (t : Bool) → nat_eq c 47 ≡ t → path_matches (components []) (components (c ∷ path)) ≡ false
    by true e = ap (path_matches (components [])) (here c path e ∙ ap (λ ps. [] ∷ ps) (first_part path).1.1)
    by false e = ap (path_matches (components [])) (later c path e ∙ ap (onto_first c) (first_part path).1.1)

alone : (pattern path : List ℕ) → is_plain pattern ≡ true → pattern_matches pattern path ≡ same_bytes pattern path
alone [] [] plain = refl
alone [] (c ∷ path) plain = none_is_slash c path
alone (b ∷ pattern) [] plain =
    let bytes = plain_first b pattern plain in
    let parts = named_first pattern (subst (λ p. starts_star p ≡ false) (append-nil pattern) (plain_start pattern [] bytes.3 refl)) in
    at_end b pattern parts.0 parts.1.0 bytes.0 bytes.1 bytes.2 parts.1.1.0 parts.1.1.1
alone (b ∷ pattern) (c ∷ path) plain =
    let bytes = plain_first b pattern plain in
    let parts = named_first pattern (subst (λ p. starts_star p ≡ false) (append-nil pattern) (plain_start pattern [] bytes.3 refl)) in
    at_byte b pattern parts.0 parts.1.0 bytes.0 bytes.1 bytes.2 parts.1.1.0 parts.1.1.1 c path ∙ ap (λ t. nat_eq b c && t) (alone pattern path bytes.3)

pub itself_alone : (pattern path : List ℕ) → is_plain pattern ≡ true → admits (including (pattern ∷ [])) path ≡ same_bytes pattern path
itself_alone pattern path plain = one_admits pattern path ∙ alone pattern path plain

-- ---- the pattern with `/**` after it

turned : (c : ℕ) → nat_eq c 47 ≡ true → nat_eq 47 c ≡ true
turned c = grind arith

turned_not : (c : ℕ) → nat_eq c 47 ≡ false → nat_eq 47 c ≡ false
turned_not c = grind arith

rest_after : (c : ℕ) (path : List ℕ) → pattern_matches (codes "/**") (c ∷ path) ≡ (nat_eq 47 c && starts_with nat_eq path [])
rest_after c path = by (nat_eq c 47) refl
  where
    by : (t : Bool) → nat_eq c 47 ≡ t → pattern_matches (codes "/**") (c ∷ path) ≡ (nat_eq 47 c && starts_with nat_eq path [])
    by true e =
        ap (path_matches (components (codes "/**"))) (here c path e) ∙ all_rests (components path)
        ∙ sym (ap (λ t. t && starts_with nat_eq path []) (turned c e) ∙ begins_with_none path)
    by false e =
        ap (path_matches (components (codes "/**"))) (later c path e ∙ ap (onto_first c) (first_part path).1.1)
        ∙ sym (ap (λ t. t && starts_with nat_eq path []) (turned_not c e))

with_rest : (pattern path : List ℕ) → is_plain pattern ≡ true → pattern_matches (pattern ++ codes "/**") path ≡ (same_bytes pattern path || lies_below path pattern)
with_rest [] [] plain = refl
with_rest [] (c ∷ path) plain = rest_after c path
with_rest (b ∷ pattern) [] plain =
    let bytes = plain_first b pattern plain in
    let parts = named_first (pattern ++ codes "/**") (plain_start pattern (codes "/**") bytes.3 refl) in
    at_end b (pattern ++ codes "/**") parts.0 parts.1.0 bytes.0 bytes.1 bytes.2 parts.1.1.0 parts.1.1.1
with_rest (b ∷ pattern) (c ∷ path) plain =
    let bytes = plain_first b pattern plain in
    let parts = named_first (pattern ++ codes "/**") (plain_start pattern (codes "/**") bytes.3 refl) in
    at_byte b (pattern ++ codes "/**") parts.0 parts.1.0 bytes.0 bytes.1 bytes.2 parts.1.1.0 parts.1.1.1 c path
    ∙ ap (λ t. nat_eq b c && t) (with_rest pattern path bytes.3)
    ∙ and-or_distrib_left (nat_eq b c) (same_bytes pattern path) (lies_below path pattern)

pub itself_and_below : (pattern path : List ℕ) → is_plain pattern ≡ true → admits (including ((pattern ++ codes "/**") ∷ [])) path ≡ (same_bytes pattern path || lies_below path pattern)
itself_and_below pattern path plain = one_admits (pattern ++ codes "/**") path ∙ with_rest pattern path plain

pub all_except : (pattern path : List ℕ) → is_plain pattern ≡ true
    → admits (record { included = []; excluded = (pattern ++ codes "/**") ∷ [] }) path ≡ not (same_bytes pattern path || lies_below path pattern)
all_except pattern path plain = ap not (or-false (pattern_matches (pattern ++ codes "/**") path) ∙ with_rest pattern path plain)
