-- What compiled patterns match, compared with their texts.
use Rattle.std.specs.Prelude.{◌≡◌, ℕ, suc, Bool, true, false, ◌==◌, if◌then◌else◌, List, [], ◌∷◌, ◌++◌, length, nat_eq, Option, Some, None}
use Rattle.std.specs.Borrow.{Bor}
use Rattle.std.specs.Global.{Vec}
use Rattle.std.specs.List.{AllZip, ends_with, starts_with}
use Rattle.eden_ids.specs.Paths.{components}
use Rattle.eden_ids.specs.Sameness.{same_bytes}
use Rattle.eden_globs.specs.Filters.{first_then, is_any_names, is_none_left, name_matches, some_rest}
use Rattle.eden_globs.specs.declared.pattern.Part.{Part}
use Rattle.eden_globs.specs.declared.pattern.Part.TheVariants.{AnyNames, Name, Prefix, Suffix, Tokens}
use Rattle.eden_globs.specs.declared.pattern.Token.{Token}
use Rattle.eden_globs.specs.declared.pattern.Token.TheVariants.{Run, Any, Byte}

-- items match a pattern, from first to last; some members of it match any number of items,
-- and each of the others takes one item
abbrev pub items_match : {E X : Type 0} → (E → Bool) → (E → X → Bool) → List E → List X → Bool
items_match is_any takes [] items = is_none_left items
items_match is_any takes (e ∷ es) items =
    if is_any e then some_rest (items_match is_any takes es) items else first_then (takes e) (items_match is_any takes es) items

abbrev pub is_run : Token → Bool
is_run Run = true
is_run Any = false
is_run (Byte c) = false

-- a token stands for a byte; one that stands for any run stands for any byte too
abbrev pub takes : Token → ℕ → Bool
takes Run b = true
takes Any b = true
takes (Byte c) b = c == b

-- a name matches tokens
abbrev pub tokens_match : List Token → List ℕ → Bool
tokens_match = items_match is_run takes

-- tokens match the same names as the rest of a part
abbrev pub AreTokensOf : List Token → Bool → List ℕ → Type 0
AreTokensOf tokens escaped text = (name : List ℕ) → tokens_match tokens name ≡ name_matches escaped text name

-- a token may match a byte, no matter what follows
abbrev pub StandsFor : Token → Bool → ℕ → Type 0
StandsFor token escaped byte = (tokens : List Token) (text : List ℕ) → AreTokensOf tokens false text → AreTokensOf (token ∷ tokens) escaped (byte ∷ text)

-- a name matches a part; the part that matches any number of names matches any one name
-- too
abbrev pub part_matches : Part → List ℕ → Bool
part_matches AnyNames name = true
part_matches (Name bytes) name = same_bytes bytes.items name
part_matches (Prefix bytes) name = starts_with nat_eq name bytes.items
part_matches (Suffix bytes) name = ends_with nat_eq name bytes.items
part_matches (Tokens tokens) name = tokens_match tokens.items name

abbrev pub is_any_names_part : Part → Bool
is_any_names_part AnyNames = true
is_any_names_part (Name bytes) = false
is_any_names_part (Prefix bytes) = false
is_any_names_part (Suffix bytes) = false
is_any_names_part (Tokens tokens) = false

-- a path's names match parts
abbrev pub parts_match : List Part → List (List ℕ) → Bool
parts_match = items_match is_any_names_part part_matches

-- a part matches exactly the names that its text does, and is `**` if its text is
abbrev pub IsPartOf : Part → List ℕ → Type 0
IsPartOf part text = (is_any_names_part part ≡ is_any_names text) × ((name : List ℕ) → part_matches part name ≡ name_matches false text name)

abbrev pub AreParts : List Part → List (List ℕ) → Type 0
AreParts parts texts = AllZip IsPartOf parts texts

-- each pattern's parts are those of its text
abbrev pub AreCompiled : List (Vec Part) → List (List ℕ) → Type 0
AreCompiled compiled patterns = AllZip (λ parts pattern. AreParts parts.items (components pattern)) compiled patterns

-- the name is the last of these
abbrev pub EndsIn : List (List ℕ) → List ℕ → Type 0
EndsIn names name = (front : List (List ℕ)) × (names ≡ front ++ name ∷ [])

-- the names of what is left of a path after a slash; after its last name nothing is left
abbrev pub left_of : Option (Bor (List ℕ)) → List (List ℕ)
left_of None = []
left_of (Some rest) = components rest.now

abbrev pub left_length : Option (Bor (List ℕ)) → ℕ
left_length None = 0
left_length (Some rest) = suc (length rest.now)
