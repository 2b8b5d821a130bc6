-- Where a filter does not enter a directory, it admits nothing that lies below it.
use Rattle.std.proofs.Common.{◌≡◌, ℕ, Bool, true, false, cond, not, ◌&&◌, ◌||◌, nat_eq, List, [], ◌∷◌, ◌++◌, ◌<◌, length, arith, refl, sym, ap, ◌∙◌}
use Rattle.std.proofs.Math.Bool.{and-false, or-true}
use Rattle.std.proofs.lemmas.Bool.{and_parts, eqb-true}
use Rattle.std.specs.List.{list_any, onto_first, starts_with}
use Rattle.eden_ids.specs.Paths.{components, lies_below}
use Rattle.eden_globs.specs.Filters.{Patterns, admits, ends_in_any_names, enters, first_then, includes, includes_below, is_any_names, is_none_left, name_matches, names_of, parts_enter, path_matches, pattern_enters, pattern_matches, pattern_takes, some_match, some_rest, some_take}
use Rattle.eden_globs.proofs.Splitting.{here, later}
use Rattle.eden_globs.proofs.Stretches.{some_alike, some_empty, some_first}

-- ---- the parts of a directory's path and of what lies below it

-- bytes have a first part
pub first_part : (bytes : List ℕ) → (first : List ℕ) × ((rest : List (List ℕ)) × (components bytes ≡ first ∷ rest))
first_part [] = ([], ([], refl))
first_part (b ∷ bytes) = by (nat_eq b 47) refl (first_part bytes)
  where
    by : (t : Bool) → nat_eq b 47 ≡ t → ((first : List ℕ) × ((rest : List (List ℕ)) × (components bytes ≡ first ∷ rest)))
        → (first : List ℕ) × ((rest : List (List ℕ)) × (components (b ∷ bytes) ≡ first ∷ rest))
    by true e more = ([], (components bytes, here b bytes e))
    by false e more = (b ∷ more.0, (more.1.0, later b bytes e ∙ ap (onto_first b) more.1.1))

onto_some : (b : ℕ) (p : List ℕ) (ps xs ys : List (List ℕ)) → xs ≡ p ∷ ps → onto_first b (xs ++ ys) ≡ onto_first b xs ++ ys
onto_some b p ps xs ys e = ap (λ zs. onto_first b (zs ++ ys)) e ∙ sym (ap (λ zs. onto_first b zs ++ ys) e)

pub parts_below : (top rest : List ℕ) → components (top ++ 47 ∷ rest) ≡ components top ++ components rest
parts_below [] rest = refl
parts_below (b ∷ top) rest = by (nat_eq b 47) refl (parts_below top rest)
  where
    by : (t : Bool) → nat_eq b 47 ≡ t → components (top ++ 47 ∷ rest) ≡ components top ++ components rest → components (b ∷ (top ++ 47 ∷ rest)) ≡ components (b ∷ top) ++ components rest
    by true e more = here b (top ++ 47 ∷ rest) e ∙ ap (λ ps. [] ∷ ps) more ∙ sym (ap (λ ps. ps ++ components rest) (here b top e))
    by false e more =
        let some = first_part top in
        later b (top ++ 47 ∷ rest) e ∙ ap (onto_first b) more ∙ onto_some b some.0 some.1.0 (components top) (components rest) some.1.1
        ∙ sym (ap (λ ps. ps ++ components rest) (later b top e))

-- what lies below has a slash after the directory
below_parts : (path top : List ℕ) → starts_with nat_eq path (top ++ 47 ∷ []) ≡ true → (rest : List ℕ) × (path ≡ top ++ 47 ∷ rest)
below_parts [] [] e = absurd (let bad : false ≡ true = e in cc)
below_parts [] (a ∷ top) e = absurd (let bad : false ≡ true = e in cc)
below_parts (x ∷ path) [] e = by (nat_eq 47 x) refl e
  where
    by : (t : Bool) → nat_eq 47 x ≡ t → (t && true) ≡ true → (rest : List ℕ) × (x ∷ path ≡ 47 ∷ rest)
    by true same h = (path, ap (λ n. n ∷ path) (sym (eqb-true 47 x same)))
    by false same h = absurd (let bad : false ≡ true = h in cc)
below_parts (x ∷ path) (a ∷ top) e = by (nat_eq a x) refl e (below_parts path top)
  where
    by : (t : Bool) → nat_eq a x ≡ t → (t && starts_with nat_eq path (top ++ 47 ∷ [])) ≡ true
        → (starts_with nat_eq path (top ++ 47 ∷ []) ≡ true → (rest : List ℕ) × (path ≡ top ++ 47 ∷ rest)) → (rest : List ℕ) × (x ∷ path ≡ a ∷ (top ++ 47 ∷ rest))
    by true same h below =
        let more = below h in
        (more.0, ap (λ n. n ∷ path) (sym (eqb-true a x same)) ∙ ap (λ ys. a ∷ ys) more.1)
    by false same h below = absurd (let bad : false ≡ true = h in cc)

-- ---- no pattern matches what lies below

none_there : (parts names : List (List ℕ)) (m : List ℕ) (ms : List (List ℕ)) → parts_enter parts names ≡ false → path_matches parts (names ++ m ∷ ms) ≡ false
none_there [] [] m ms e = refl
none_there [] (n ∷ names) m ms e = refl
none_there (part ∷ parts) [] m ms e = absurd (let bad : true ≡ false = e in cc)
none_there (part ∷ parts) (n ∷ names) m ms e = by (is_any_names part) (name_matches false part n) (parts_enter parts names) e (none_there parts names m ms)
  where
    by : (a b c : Bool) → (a || (b && c)) ≡ false → (c ≡ false → path_matches parts (names ++ m ∷ ms) ≡ false)
        → cond a (some_rest (path_matches parts) (n ∷ (names ++ m ∷ ms))) (b && path_matches parts (names ++ m ∷ ms)) ≡ false
    by true b c h k = absurd (let bad : true ≡ false = h in cc)
    by false true c h k = k h
    by false false c h k = refl

pattern_none : (directory path pattern : List ℕ) → lies_below path directory ≡ true → pattern_enters pattern directory ≡ false → pattern_matches pattern path ≡ false
pattern_none [] path pattern below e =
    let some = first_part pattern in
    let bad : true ≡ false = sym (ap (λ ps. parts_enter ps []) some.1.1) ∙ e in
    absurd (cc)
pattern_none (b ∷ directory) path pattern below e =
    let cut = below_parts path (b ∷ directory) below in
    let some = first_part cut.0 in
    ap (pattern_matches pattern) cut.1
    ∙ ap (path_matches (components pattern)) (parts_below (b ∷ directory) cut.0 ∙ ap (λ ps. components (b ∷ directory) ++ ps) some.1.1)
    ∙ none_there (components pattern) (components (b ∷ directory)) some.0 some.1.0 e

none_of : (f g : List ℕ → Bool) (ps : List (List ℕ)) → ((p : List ℕ) → f p ≡ false → g p ≡ false) → list_any f ps ≡ false → list_any g ps ≡ false
none_of f g [] each e = refl
none_of f g (p ∷ ps) each e = by (f p) (g p) (list_any f ps) e (each p) (none_of f g ps each)
  where
    by : (a b c : Bool) → (a || c) ≡ false → (a ≡ false → b ≡ false) → (c ≡ false → list_any g ps ≡ false) → (b || list_any g ps) ≡ false
    by true b c h k l = absurd (let bad : true ≡ false = h in cc)
    by false b c h k l = ap (λ t. t || list_any g ps) (k refl) ∙ l h

none_included : (patterns : List (List ℕ)) (directory path : List ℕ) → includes_below patterns directory ≡ false → lies_below path directory ≡ true → includes patterns path ≡ false
none_included [] directory path e below = absurd (let bad : true ≡ false = e in cc)
none_included (p ∷ ps) directory path e below =
    none_of (λ q. pattern_enters q directory) (λ q. pattern_matches q path) (p ∷ ps) (λ q. pattern_none directory path q below) e

-- ---- a pattern that takes a directory matches what lies below

pub all_rests : (names : List (List ℕ)) → some_rest (path_matches []) names ≡ true
all_rests names = some_alike (path_matches []) is_none_left (λ ns. refl) names ∙ some_empty names

rests_more : (test : List (List ℕ) → Bool) (more : List (List ℕ)) → ((names : List (List ℕ)) → test names ≡ true → test (names ++ more) ≡ true) → (names : List (List ℕ)) → some_rest test names ≡ true → some_rest test (names ++ more) ≡ true
rests_more test more keeps [] e = some_first test more (keeps [] e)
rests_more test more keeps (n ∷ names) e = by (test (n ∷ names)) refl e (rests_more test more keeps names)
  where
    by : (t : Bool) → test (n ∷ names) ≡ t → (t || some_rest test names) ≡ true → (some_rest test names ≡ true → some_rest test (names ++ more) ≡ true)
        → (test (n ∷ (names ++ more)) || some_rest test (names ++ more)) ≡ true
    by true is h later = ap (λ b. b || some_rest test (names ++ more)) (keeps (n ∷ names) is)
    by false is h later = ap (λ b. test (n ∷ (names ++ more)) || b) (later h) ∙ or-true (test (n ∷ (names ++ more)))

first_more : (first : List ℕ → Bool) (test : List (List ℕ) → Bool) (more : List (List ℕ)) → ((names : List (List ℕ)) → test names ≡ true → test (names ++ more) ≡ true) → (names : List (List ℕ)) → first_then first test names ≡ true → first_then first test (names ++ more) ≡ true
first_more first test more keeps [] e = absurd (let bad : false ≡ true = e in cc)
first_more first test more keeps (n ∷ names) e = by (first n) e
  where
    by : (t : Bool) → (t && test names) ≡ true → (t && test (names ++ more)) ≡ true
    by true h = keeps names h
    by false h = absurd (let bad : false ≡ true = h in cc)

taken_more : (parts names more : List (List ℕ)) → ends_in_any_names parts ≡ true → path_matches parts names ≡ true → path_matches parts (names ++ more) ≡ true
taken_more [] names more ends e = absurd (let bad : false ≡ true = ends in cc)
taken_more (p ∷ []) names more ends e =
    ap (λ b. cond b (some_rest (path_matches []) (names ++ more)) (first_then (name_matches false p) (path_matches []) (names ++ more))) ends ∙ all_rests (names ++ more)
taken_more (p ∷ q ∷ ps) names more ends e = by (is_any_names p) e (λ xs h. taken_more (q ∷ ps) xs more ends h)
  where
    by : (t : Bool) → cond t (some_rest (path_matches (q ∷ ps)) names) (first_then (name_matches false p) (path_matches (q ∷ ps)) names) ≡ true
        → ((xs : List (List ℕ)) → path_matches (q ∷ ps) xs ≡ true → path_matches (q ∷ ps) (xs ++ more) ≡ true)
        → cond t (some_rest (path_matches (q ∷ ps)) (names ++ more)) (first_then (name_matches false p) (path_matches (q ∷ ps)) (names ++ more)) ≡ true
    by true h keeps = rests_more (path_matches (q ∷ ps)) more keeps names h
    by false h keeps = first_more (name_matches false p) (path_matches (q ∷ ps)) more keeps names h

pattern_all : (directory path pattern : List ℕ) → lies_below path directory ≡ true → pattern_takes pattern directory ≡ true → pattern_matches pattern path ≡ true
pattern_all [] path pattern below e =
    let both = and_parts (ends_in_any_names (components pattern)) (path_matches (components pattern) []) e in
    taken_more (components pattern) [] (components path) both.0 both.1
pattern_all (b ∷ directory) path pattern below e =
    let both = and_parts (ends_in_any_names (components pattern)) (path_matches (components pattern) (components (b ∷ directory))) e in
    let cut = below_parts path (b ∷ directory) below in
    ap (pattern_matches pattern) cut.1
    ∙ ap (path_matches (components pattern)) (parts_below (b ∷ directory) cut.0)
    ∙ taken_more (components pattern) (components (b ∷ directory)) (components cut.0) both.0 both.1

some_of : (f g : List ℕ → Bool) (ps : List (List ℕ)) → ((p : List ℕ) → f p ≡ true → g p ≡ true) → list_any f ps ≡ true → list_any g ps ≡ true
some_of f g [] each e = absurd (let bad : false ≡ true = e in cc)
some_of f g (p ∷ ps) each e = by (f p) e (each p) (some_of f g ps each)
  where
    by : (a : Bool) → (a || list_any f ps) ≡ true → (a ≡ true → g p ≡ true) → (list_any f ps ≡ true → list_any g ps ≡ true) → (g p || list_any g ps) ≡ true
    by true h k l = ap (λ t. t || list_any g ps) (k refl)
    by false h k l = ap (λ t. g p || t) (l h) ∙ or-true (g p)

all_excluded : (patterns : List (List ℕ)) (directory path : List ℕ) → some_take patterns directory ≡ true → lies_below path directory ≡ true → some_match patterns path ≡ true
all_excluded patterns directory path e below =
    some_of (λ q. pattern_takes q directory) (λ q. pattern_matches q path) patterns (λ q. pattern_all directory path q below) e

-- ---- nothing below is admitted

pub none_outside : (filter : Patterns) (directory path : List ℕ) → enters filter directory ≡ false → lies_below path directory ≡ true → admits filter path ≡ false
none_outside filter directory path e below =
    by (includes_below filter.included directory) (some_take filter.excluded directory) e
    (λ h. none_included filter.included directory path h below) (λ h. all_excluded filter.excluded directory path h below)
  where
    by : (a b : Bool) → (a && not b) ≡ false → (a ≡ false → includes filter.included path ≡ false) → (b ≡ true → some_match filter.excluded path ≡ true) → admits filter path ≡ false
    by false b h none all = ap (λ t. t && not (some_match filter.excluded path)) (none refl)
    by true true h none all = ap (λ t. includes filter.included path && not t) (all refl) ∙ and-false (includes filter.included path)
    by true false h none all = absurd (let bad : true ≡ false = h in cc)

-- ---- the root, and what lies below it

pub root_enters : (patterns : List (List ℕ)) (directory : List ℕ) → length directory ≡ 0 → includes_below patterns directory ≡ true
root_enters [] directory e = refl
root_enters (p ∷ ps) (b ∷ directory) e = absurd (omega (arith, e))
root_enters (p ∷ ps) [] e = let some = first_part p in ap (λ ts. parts_enter ts [] || list_any (λ pattern. pattern_enters pattern []) ps) some.1.1

pub names_below : (directory : List ℕ) → 0 < length directory → names_of directory ≡ components directory
names_below [] e = absurd (omega (arith, e))
names_below (b ∷ directory) e = refl

pub no_names : (directory : List ℕ) → length directory ≡ 0 → names_of directory ≡ []
no_names [] e = refl
no_names (b ∷ directory) e = absurd (omega (arith, e))

pub below_root : (pattern directory : List ℕ) → 0 < length directory → pattern_enters pattern directory ≡ parts_enter (components pattern) (components directory)
below_root pattern [] e = absurd (omega (arith, e))
below_root pattern (b ∷ directory) e = refl
