-- Filters, and which paths they admit. A pattern is read as `git help gitignore` says,
-- but it must match the whole path. Bytes are numbers: 42 is `*`, 47 is `/`, 63 is `?`,
-- 91 is `[`, 92 is a backslash and 123 is `{`.
use Rattle.std.specs.Prelude.{◌≡◌, ℕ, ◌+◌, Bool, true, false, not, ◌&&◌, ◌||◌, ◌==◌, nat_eq, nat_lt, if◌then◌else◌, List, [], ◌∷◌, length, map, codes, Option, Some, None}
use Rattle.std.specs.List.{list_all, list_any}
use Rattle.std.specs.Cmp.Lexicographic.{pointwise}
use Rattle.std.specs.Option.{option_or}
use Rattle.std.specs.Ordering.{eq_of_both, on}
use Rattle.std.specs.Global.{Vec}
use Rattle.eden_ids.specs.Paths.{components}
use Rattle.eden_ids.specs.Sameness.{same_bytes}
use Rattle.eden_globs.specs.declared.filter.FilterFault.{FilterFault}
use Rattle.eden_globs.specs.declared.filter.FilterFault.TheVariants.{TooMany, PatternTooLong, BadPattern}

-- what some vectors of bytes hold
abbrev pub lists : List (Vec ℕ) → List (List ℕ)
lists vectors = map (λ v. v.items) vectors

-- ---- patterns

-- no `[` or `{` without a backslash before it, and no backslash at the end; `escaped`
-- says that a backslash precedes the bytes
abbrev pub is_spelled : Bool → List ℕ → Bool
is_spelled escaped [] = not escaped
is_spelled true (b ∷ part) = is_spelled false part
is_spelled false (b ∷ part) = if b == 92 then is_spelled true part else not (b == 91 || b == 123) && is_spelled false part

-- the bytes may be between two slashes of a pattern
abbrev pub is_part : List ℕ → Bool
is_part part = nat_lt 0 (length part) && is_spelled false part

-- why the bytes at a position in the list are not a pattern
abbrev pub pattern_fault : ℕ → List ℕ → Option FilterFault
pattern_fault place bytes =
    if nat_lt 256 (length bytes) then Some PatternTooLong else
    if list_all is_part (components bytes) then None else Some (BadPattern place)

-- the first fault of these patterns, the first of which is at this position
abbrev pub patterns_fault : ℕ → List (List ℕ) → Option FilterFault
patterns_fault place [] = None
patterns_fault place (bytes ∷ patterns) = option_or (pattern_fault place bytes) (patterns_fault (place + 1) patterns)

-- the first reason why a list of patterns is not a filter
abbrev pub filter_fault : List (List ℕ) → Option FilterFault
filter_fault patterns = if nat_lt 32 (length patterns) then Some TooMany else patterns_fault 0 patterns

-- ---- filters

-- which paths are wanted: those that one of the included patterns matches, or every path
-- if there are none, but none that an excluded pattern matches
pub record Patterns : Type 0 where
  pub included : List (List ℕ)
  pub excluded : List (List ℕ)

abbrev pub all_paths : Patterns
all_paths = record { included = []; excluded = [] }

abbrev pub including : List (List ℕ) → Patterns
including patterns = record { included = patterns; excluded = [] }

abbrev pub same_filter : Patterns → Patterns → Bool
same_filter = eq_of_both (on (λ f. f.included) (pointwise (pointwise nat_eq))) (on (λ f. f.excluded) (pointwise (pointwise nat_eq)))

-- both lists are without a fault
pub record IsFilter (filter : Patterns) : Type 0 where
  pub included : filter_fault filter.included ≡ None
  pub excluded : filter_fault filter.excluded ≡ None

-- ---- what a pattern matches

-- the list passes the test, or some suffix of it does
abbrev pub some_rest : {X : Type 0} → (List X → Bool) → List X → Bool
some_rest test [] = test []
some_rest test (x ∷ xs) = test (x ∷ xs) || some_rest test xs

-- there is a first item that passes one test, and the rest after it passes the other
abbrev pub first_then : {X : Type 0} → (X → Bool) → (List X → Bool) → List X → Bool
first_then first rest [] = false
first_then first rest (x ∷ xs) = first x && rest xs

abbrev pub is_none_left : {X : Type 0} → List X → Bool
is_none_left [] = true
is_none_left (x ∷ xs) = false

-- a name matches a part of a pattern: `*` matches any run of bytes, `?` any one byte, a
-- backslash and a byte that byte, and any other byte itself; `escaped` says that a
-- backslash precedes the part
abbrev pub name_matches : Bool → List ℕ → List ℕ → Bool
name_matches escaped [] name = is_none_left name
name_matches true (c ∷ part) name = first_then (λ b. c == b) (name_matches false part) name
name_matches false (c ∷ part) name =
    if c == 92 then name_matches true part name else
    if c == 42 then some_rest (name_matches false part) name else
    if c == 63 then first_then (λ b. true) (name_matches false part) name else first_then (λ b. c == b) (name_matches false part) name

-- the part that matches any number of names
abbrev pub is_any_names : List ℕ → Bool
is_any_names part = same_bytes part (codes "**")

-- the names of a path match the parts of a pattern, from first to last
abbrev pub path_matches : List (List ℕ) → List (List ℕ) → Bool
path_matches [] names = is_none_left names
path_matches (part ∷ parts) names =
    if is_any_names part then some_rest (path_matches parts) names else first_then (name_matches false part) (path_matches parts) names

abbrev pub pattern_matches : List ℕ → List ℕ → Bool
pattern_matches pattern path = path_matches (components pattern) (components path)

-- ---- what a filter admits

-- some pattern matches the path
abbrev pub some_match : List (List ℕ) → List ℕ → Bool
some_match patterns path = list_any (λ pattern. pattern_matches pattern path) patterns

-- some pattern matches the path, or there are no patterns
abbrev pub includes : List (List ℕ) → List ℕ → Bool
includes [] path = true
includes (bytes ∷ patterns) path = some_match (bytes ∷ patterns) path

abbrev pub admits : Patterns → List ℕ → Bool
admits filter path = includes filter.included path && not (some_match filter.excluded path)

-- ---- below which directories a filter admits something

-- the names of a directory; the root, the empty byte string, has none
abbrev pub names_of : List ℕ → List (List ℕ)
names_of [] = []
names_of (b ∷ directory) = components (b ∷ directory)

-- the names of a directory match the first parts of a pattern and a part is left for what
-- is below it, or they match up to a `**`
abbrev pub parts_enter : List (List ℕ) → List (List ℕ) → Bool
parts_enter [] names = false
parts_enter (part ∷ parts) [] = true
parts_enter (part ∷ parts) (name ∷ names) = is_any_names part || (name_matches false part name && parts_enter parts names)

abbrev pub pattern_enters : List ℕ → List ℕ → Bool
pattern_enters pattern directory = parts_enter (components pattern) (names_of directory)

-- some pattern enters the directory, or there are no patterns
abbrev pub includes_below : List (List ℕ) → List ℕ → Bool
includes_below [] directory = true
includes_below (bytes ∷ patterns) directory = list_any (λ pattern. pattern_enters pattern directory) (bytes ∷ patterns)

-- the last of the parts is `**`
abbrev pub ends_in_any_names : List (List ℕ) → Bool
ends_in_any_names [] = false
ends_in_any_names (part ∷ []) = is_any_names part
ends_in_any_names (part ∷ next ∷ parts) = ends_in_any_names (next ∷ parts)

-- the pattern matches the directory by a last part `**`, and so matches all that is below
abbrev pub pattern_takes : List ℕ → List ℕ → Bool
pattern_takes pattern directory = ends_in_any_names (components pattern) && path_matches (components pattern) (names_of directory)

-- some pattern takes the directory
abbrev pub some_take : List (List ℕ) → List ℕ → Bool
some_take patterns directory = list_any (λ pattern. pattern_takes pattern directory) patterns

abbrev pub enters : Patterns → List ℕ → Bool
enters filter directory = includes_below filter.included directory && not (some_take filter.excluded directory)

-- ---- patterns that name one path

-- each byte of the pattern matches itself alone
abbrev pub is_plain : List ℕ → Bool
is_plain pattern = not (list_any (λ b. b == 42 || b == 63 || b == 92) pattern)
