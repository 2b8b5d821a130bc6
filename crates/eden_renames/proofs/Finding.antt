-- The map of a list of renamed directories, and the nearest directory above a path, searched for slash by slash.
use Rattle.std.proofs.Common.{◌≡◌, ℕ, suc, zero, ◌+◌, ◌<◌, Bool, true, false, nat_eq, nat_lt, List, [], ◌∷◌, ◌++◌, take, drop, length, Option, Some, None, refl, sym, ap, subst, ◌∙◌, arith}
use Rattle.std.specs.Prelude.{if◌then◌else◌}
use Rattle.std.specs.Ordering.{nat_cmp}
use Rattle.std.specs.Cmp.Lexicographic.{slice_cmp, nat_list_cmp_total}
use Rattle.std.specs.List.{slice_index_or}
use Rattle.std.specs.FinMap as fin
use Rattle.eden_ids.specs.Paths.{lies_below}
use Rattle.eden_ids.proofs.FileMapLemmas.{same_order}
use Rattle.eden_objects.proofs.Gathering.{inside}
use Rattle.eden_overlay.proofs.CarriedLemmas.{rest_below}
use Rattle.eden_renames.specs.Renames.{Entry, Renames, nearest}
use Rattle.eden_renames.specs.internal.Told.{said_before}
use Rattle.eden_renames.proofs.Nearest.{IsNearest, is_none, nearest-is, one_nearest}

-- ---- the map of a list

pub nothing_sorted : fin.from_sorted {R = slice_cmp nat_cmp} [] ≡ fin.empty {X = Option (List ℕ)}
nothing_sorted =
    fin.same_map nat_list_cmp_total same_order _ _
    (λ q. fin.get-from_sorted (slice_cmp nat_cmp) [] q tt ∙ sym (fin.get-empty (slice_cmp nat_cmp) q))

pub listed_again : (renames : Renames) → fin.from_sorted {R = slice_cmp nat_cmp} (fin.entries renames) ≡ renames
listed_again renames =
    fin.same_entries_map (fin.from_sorted {R = slice_cmp nat_cmp} (fin.entries renames)) renames (fin.entries-from_sorted (slice_cmp nat_cmp) (fin.entries renames) (fin.entries_sorted renames))

-- ---- the nearest directory above a path

-- among those that end before a place of the path
abbrev pub IsNearestBefore : Renames → List ℕ → ℕ → Option Entry → Type 0
IsNearestBefore renames path n None = (d : List ℕ) → lies_below path d ≡ true → length d < n → fin.get renames d ≡ None
IsNearestBefore renames path n (Some e) = (fin.get renames e.0 ≡ Some e.1) × (lies_below path e.0 ≡ true)
    × ((d : List ℕ) → lies_below path d ≡ true → lies_below d e.0 ≡ true → length d < n → fin.get renames d ≡ None)

byte_there : (top rest : List ℕ) → slice_index_or (top ++ 47 ∷ rest) (length top) 0 ≡ 47
byte_there [] rest = refl
byte_there (x ∷ top) rest = byte_there top rest

front_there : (top rest : List ℕ) → take (length top) (top ++ rest) ≡ top
front_there [] [] = refl
front_there [] (x ∷ rest) = refl
front_there (x ∷ top) rest = ap (λ t. x ∷ t) (front_there top rest)

longer : (top rest : List ℕ) → length top < length (top ++ 47 ∷ rest)
longer [] rest = omega arith
longer (x ∷ top) rest = let more = longer top rest in omega (arith, more)

pub is_longer : (path top : List ℕ) → lies_below path top ≡ true → length top < length path
is_longer path top below = let at = rest_below path top below in subst (λ p. length top < length p) (sym at.1) (longer top at.0)

-- what is said of a directory above a path is said at its slash
said_above : (renames : Renames) (path d : List ℕ) → lies_below path d ≡ true → said_before renames path (length d) ≡ fin.get renames d
said_above renames path d below =
    let at = rest_below path d below in
    (λ i. if nat_eq (slice_index_or (at.1 i) (length d) 0) 47 then fin.get renames (take (length d) (at.1 i)) else None)
    ∙ (λ i. if nat_eq (byte_there d at.0 i) 47 then fin.get renames (front_there d (47 ∷ at.0) i) else None)

split_there : (path : List ℕ) (n : ℕ) → n < length path → slice_index_or path n 0 ≡ 47 → path ≡ take n path ++ 47 ∷ drop (suc n) path
split_there [] n within is = absurd (omega arith)
split_there (x ∷ path) zero within is = λ i. is i ∷ path
split_there (x ∷ path) (suc n) within is = ap (λ p. x ∷ p) (split_there path n (omega arith) is)

long : (path : List ℕ) (n : ℕ) → n < length path → length (take n path) ≡ n
long [] n within = absurd (omega arith)
long (x ∷ path) zero within = refl
long (x ∷ path) (suc n) within = ap suc (long path n (omega arith))

pub none_yet : (renames : Renames) (path : List ℕ) → IsNearestBefore renames path 0 None
none_yet renames path d above few = absurd (omega arith)

one_more : (renames : Renames) (path d : List ℕ) (n : ℕ) → said_before renames path n ≡ None → lies_below path d ≡ true → length d < n + 1 → (length d < n → fin.get renames d ≡ None)
    → fin.get renames d ≡ None
one_more renames path d n none above few before = by (nat_lt (length d) n) refl
  where
    by : (b : Bool) → nat_lt (length d) n ≡ b → fin.get renames d ≡ None
    by true is = before (grind (arith, is))
    by false is = let same : length d ≡ n = grind (arith, is, few) in sym (said_above renames path d above) ∙ ap (said_before renames path) same ∙ none

pub not_there : (renames : Renames) (path : List ℕ) (n : ℕ) (o : Option Entry) → said_before renames path n ≡ None → IsNearestBefore renames path n o → IsNearestBefore renames path (n + 1) o
not_there renames path n None none near = λ d above few. one_more renames path d n none above few (near d above)
not_there renames path n (Some e) none near =
    (near.0, near.1, λ d above below few. one_more renames path d n none above few (near.2 d above below))

pub is_there : (renames : Renames) (path : List ℕ) (n : ℕ) (source : Option (List ℕ)) → n < length path → said_before renames path n ≡ Some source
    → IsNearestBefore renames path (n + 1) (Some (take n path, source))
is_there renames path n source within is = by (nat_eq (slice_index_or path n 0) 47) refl is
  where
    by : (b : Bool) → nat_eq (slice_index_or path n 0) 47 ≡ b → (if b then fin.get renames (take n path) else None) ≡ Some source
        → IsNearestBefore renames path (n + 1) (Some (take n path, source))
    by false at said = is_none source (sym said)
    by true at said =
        let slash : slice_index_or path n 0 ≡ 47 = grind (arith, at) in (
          said,
          ap (λ p. lies_below p (take n path)) (split_there path n within slash) ∙ inside (take n path) (drop (suc n) path),
          λ d above below few. let more = is_longer d (take n path) below in let same = long path n within in absurd (omega (arith, more, same, few)),
        )

pub nearest_told : (renames : Renames) (path : List ℕ) (o : Option Entry) → IsNearestBefore renames path (length path) o → nearest (fin.entries renames) path ≡ o
nearest_told renames path o near = one_nearest renames path (nearest (fin.entries renames) path) o (nearest-is renames path) (whole o near)
  where
    whole : (o : Option Entry) → IsNearestBefore renames path (length path) o → IsNearest renames path o
    whole None near = λ d above. near d above (is_longer path d above)
    whole (Some e) near = (near.0, near.1, λ d above below. near.2 d above below (is_longer path d above))
