-- What a filter's patterns are, and what its lists of patterns match.
use Rattle.std.proofs.Common.{◌≡◌, ℕ, ◌+◌, ◌<◌, ◌≤◌, Bool, true, false, cond, nat_lt, List, [], ◌∷◌, length, Option, Some, None, refl, ap, arith}
use Rattle.std.proofs.lemmas.Bool.{ltb-false}
use Rattle.std.specs.List.{AllByRecursion, list_any}
use Rattle.std.specs.Option.{option_or}
use Rattle.eden_globs.specs.declared.filter.FilterFault.{FilterFault}
use Rattle.eden_globs.specs.declared.filter.FilterFault.TheVariants.{TooMany, PatternTooLong, BadPattern}
use Rattle.eden_globs.specs.Filters.{filter_fault, includes, includes_below, pattern_enters, pattern_fault, patterns_fault, some_match, some_take}

none_guarded : (b : Bool) (fault : FilterFault) (rest : Option FilterFault) → cond b (Some fault) rest ≡ None → (b ≡ false) × (rest ≡ None)
none_guarded true fault rest e = absurd (cc)
none_guarded false fault rest e = (refl, e)

none_first : (a b : Option FilterFault) → option_or a b ≡ None → (a ≡ None) × (b ≡ None)
none_first None b e = (refl, e)
none_first (Some fault) b e = absurd (cc)

-- a filter has 32 patterns at the most
pub filter_few : (patterns : List (List ℕ)) → filter_fault patterns ≡ None → length patterns ≤ 32
filter_few patterns e = ltb-false 32 (length patterns) (none_guarded (nat_lt 32 (length patterns)) TooMany (patterns_fault 0 patterns) e).0

some_byte : (place : ℕ) (bytes : List ℕ) → pattern_fault place bytes ≡ None → (1 ≤ length bytes) × (length bytes ≤ 256)
some_byte place [] e =
    absurd (let bad : ◌≡◌ {A = Option FilterFault} (Some (BadPattern place)) None = e in cc)
some_byte place (b ∷ bytes) e = (omega arith, ltb-false 256 (length (b ∷ bytes)) (none_guarded (nat_lt 256 (length (b ∷ bytes))) PatternTooLong _ e).0)

all_short : (place : ℕ) (patterns : List (List ℕ)) → patterns_fault place patterns ≡ None → AllByRecursion (λ p. (1 ≤ length p) × (length p ≤ 256)) patterns
all_short place [] e = tt
all_short place (p ∷ ps) e =
    let both = none_first (pattern_fault place p) (patterns_fault (place + 1) ps) e in
    (some_byte place p both.0, all_short (place + 1) ps both.1)

-- each pattern of a filter has 1 to 256 bytes
pub filter_short : (patterns : List (List ℕ)) → filter_fault patterns ≡ None → AllByRecursion (λ p. (1 ≤ length p) × (length p ≤ 256)) patterns
filter_short patterns e = all_short 0 patterns (none_guarded (nat_lt 32 (length patterns)) TooMany (patterns_fault 0 patterns) e).1

-- ---- a list without patterns, and one with some

pub includes_none : (patterns : List (List ℕ)) (path : List ℕ) → patterns ≡ [] → includes patterns path ≡ true
includes_none patterns path e = ap (λ ps. includes ps path) e

pub includes_some : (patterns : List (List ℕ)) (path : List ℕ) → 0 < length patterns → includes patterns path ≡ some_match patterns path
includes_some [] path h = absurd (omega arith)
includes_some (p ∷ ps) path h = refl

pub none_match : (patterns : List (List ℕ)) (path : List ℕ) → patterns ≡ [] → some_match patterns path ≡ false
none_match patterns path e = ap (λ ps. some_match ps path) e

pub enters_none : (patterns : List (List ℕ)) (directory : List ℕ) → patterns ≡ [] → includes_below patterns directory ≡ true
enters_none patterns directory e = ap (λ ps. includes_below ps directory) e

pub enters_some : (patterns : List (List ℕ)) (directory : List ℕ) → 0 < length patterns → includes_below patterns directory ≡ list_any (λ pattern. pattern_enters pattern directory) patterns
enters_some [] directory h = absurd (omega arith)
enters_some (p ∷ ps) directory h = refl

pub none_take : (patterns : List (List ℕ)) (directory : List ℕ) → patterns ≡ [] → some_take patterns directory ≡ false
none_take patterns directory e = ap (λ ps. some_take ps directory) e
