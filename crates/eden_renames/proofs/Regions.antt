-- What is seen below a directory: by the directory itself, and by each further one below it of which something is said.
use Rattle.std.proofs.Common.{◌≡◌, ℕ, ◌+◌, ◌<◌, ◌⊎◌, inl, inr, Bool, true, false, not, cond, nat_lt, ◌&&◌, ◌||◌, List, [], ◌∷◌, ◌++◌, length, Option, Some, None, is_some, refl, sym, ap, subst, ◌∙◌, arith, append_assoc, length-append}
use Rattle.std.specs.Prelude.{IsSome, filter, if◌then◌else◌}
use Rattle.std.specs.Option.{option_or}
use Rattle.std.specs.List.{list_any}
use Rattle.std.specs.FinMap as fin
use Rattle.std.proofs.lemmas.Bool.{cases_Bool, or_left, or_right}
use Rattle.eden_ids.specs.Paths.{lies_below}
use Rattle.eden_ids.specs.FileMaps.{FileMap, file_at, paths, same_path}
use Rattle.eden_ids.proofs.FileMapLemmas.{held, same_path-is}
use Rattle.eden_ids.proofs.TreeQuestions.{any_witness}
use Rattle.eden_overlay.specs.Carried.{carried}
use Rattle.eden_overlay.proofs.CarriedLemmas.{below-trans, carried-back, carried-below, carried_there, nested, rest_below}
use Rattle.eden_objects.proofs.Gathering.{above_more}
use Rattle.eden_objects.specs.Passing.{told}
use Rattle.eden_renames.specs.Renames.{ArePaths, Entry, Renames, file_from, is_governed, nearest, own_or, path_alone, seen_through, source_by, source_dir, source_of}
use Rattle.eden_renames.specs.internal.Regions.{has_own, is_apart, is_past, region_has}
use Rattle.eden_renames.proofs.Nearest.{IsNearest, is_none, nearest-is, no, source_is}
use Rattle.eden_renames.proofs.Seen.{file_at-seen}
use Rattle.eden_renames.proofs.DirRenamed.{alone}
use Rattle.eden_renames.proofs.Settled.{own_file}

-- ---- tests

same_bool : (a b : Bool) → (a ≡ true → b ≡ true) → (b ≡ true → a ≡ true) → a ≡ b
same_bool true b to back = sym (to refl)
same_bool false false to back = refl
same_bool false true to back = back refl

both : (a b : Bool) → (a && b) ≡ true → (a ≡ true) × (b ≡ true)
both true b h = (refl, h)
both false b h = no (sym h)

paired : (a b : Bool) → a ≡ true → b ≡ true → (a && b) ≡ true
paired a b x y = ap (λ a. a && b) x ∙ y

pub negated : (b : Bool) → not b ≡ true → b ≡ false
negated true h = no (sym h)
negated false h = refl

pub neither : (a b : Bool) → (a || b) ≡ false → (a ≡ false) × (b ≡ false)
neither true b h = no h
neither false b h = (refl, h)

is_less : (a b : ℕ) → a < b → nat_lt a b ≡ true
is_less a b h = grind (arith, h)

is_not_less : (a : ℕ) → nat_lt a a ≡ false
is_not_less a = grind arith

-- a test of a map's paths, and a file at one that passes
passing : (test : List ℕ → Bool) (ks : List (List ℕ)) (p : List ℕ) → list_any (λ q. same_path p q) ks ≡ true → test p ≡ true → list_any test ks ≡ true
passing test [] p listed here = no (sym listed)
passing test (k ∷ ks) p listed here =
    elim (same_path p k) as (λ b. same_path p k ≡ b → (b || list_any (λ q. same_path p q) ks) ≡ true → (test k || list_any test ks) ≡ true) [
      | true ↦ λ same _. or_left _ _ (ap test (sym (same_path-is p k same)) ∙ here)
      | false ↦ λ _ more. or_right (test k) _ (passing test ks p more here)
    ] refl listed

file_passes : (test : List ℕ → Bool) (files : FileMap) (p : List ℕ) → IsSome (file_at files p) → test p ≡ true → list_any test (paths files) ≡ true
file_passes test files p there here = passing test (paths files) p (held files p there) here

passing_file : (test : List ℕ → Bool) (files : FileMap) → list_any test (paths files) ≡ true → (p : List ℕ) × IsSome (file_at files p) × (test p ≡ true)
passing_file test files some =
    let found = any_witness test (paths files) some in
    (found.0, fin.contains_key-keys files found.0 ∙ found.1, found.2)

-- ---- the nearest directory above a path

pub longer : (path top : List ℕ) → lies_below path top ≡ true → length top < length path
longer path top below =
    let at = rest_below path top below in
    let whole : length path ≡ length (top ++ 47 ∷ at.0) = ap length at.1 in
    let parts : length (top ++ 47 ∷ at.0) ≡ length top + length (47 ∷ at.0) = length-append top (47 ∷ at.0) in
    omega (arith, whole, parts)

-- where something is said of a longer directory above the path, the nearest one is longer too
pub past_if : (renames : Renames) (path d : List ℕ) (long : ℕ) (x : Option (List ℕ)) → fin.get renames d ≡ Some x → lies_below path d ≡ true → long < length d
    → is_past long (nearest (fin.entries renames) path) ≡ true
past_if renames path d long x said above more = by (nearest (fin.entries renames) path) (nearest-is renames path)
  where
    by : (o : Option Entry) → IsNearest renames path o → is_past long o ≡ true
    by None none = is_none x (sym said ∙ none d above)
    by (Some e) near = at (nested path e.0 d near.1 above)
      where
        at : (e.0 ≡ d) ⊎ ((lies_below e.0 d ≡ true) ⊎ (lies_below d e.0 ≡ true)) → nat_lt long (length e.0) ≡ true
        at (inl same) = let n : length e.0 ≡ length d = ap length same in is_less long (length e.0) (omega (arith, n, more))
        at (inr (inl below)) = let n = longer e.0 d below in is_less long (length e.0) (omega (arith, n, more))
        at (inr (inr below)) = is_none x (sym said ∙ near.2 d above below)

pub governed_if : (renames : Renames) (path d : List ℕ) (x : Option (List ℕ)) → fin.get renames d ≡ Some x → lies_below path d ≡ true → is_governed renames path ≡ true
governed_if renames path d x said above = passing (λ top. lies_below path top) (fin.keys renames) d (sym (fin.contains_key-keys renames d) ∙ ap is_some said) above

pub governed_more : (renames : Renames) (path : List ℕ) → is_governed renames path ≡ true → (rest : List ℕ) → is_governed renames (path ++ rest) ≡ true
governed_more renames path governed rest =
    let found = any_witness (λ top. lies_below path top) (fin.keys renames) governed in
    passing (λ top. lies_below (path ++ rest) top) (fin.keys renames) found.0 found.1 (above_more path rest found.0 found.2)

-- an entry governs a path where one is the nearest above it
pub governed_near : (renames : Renames) (path : List ℕ) → is_governed renames path ≡ is_some (nearest (fin.entries renames) path)
governed_near renames path = by (nearest (fin.entries renames) path) (nearest-is renames path)
  where
    by : (o : Option Entry) → IsNearest renames path o → is_governed renames path ≡ is_some o
    by (Some e) near = governed_if renames path e.0 e.1 near.0 near.1
    by None none = free (is_governed renames path) refl
      where
        free : (b : Bool) → is_governed renames path ≡ b → b ≡ false
        free false is = refl
        free true is =
            let found = any_witness (λ top. lies_below path top) (fin.keys renames) is in
            no (sym (fin.contains_key-keys renames found.0 ∙ found.1) ∙ ap is_some (none found.0 found.2))

pub past_more : (renames : Renames) (path : List ℕ) (long : ℕ) → is_past long (nearest (fin.entries renames) path) ≡ true
    → (rest : List ℕ) → is_past long (nearest (fin.entries renames) (path ++ rest)) ≡ true
past_more renames path long past rest = by (nearest (fin.entries renames) path) (nearest-is renames path) past
  where
    by : (o : Option Entry) → IsNearest renames path o → is_past long o ≡ true → is_past long (nearest (fin.entries renames) (path ++ rest)) ≡ true
    by None none h = no (sym h)
    by (Some e) near h = past_if renames (path ++ rest) e.0 long e.1 near.0 (above_more path rest e.0 near.1) (grind (arith, h))

-- of what is not past a directory nothing is said further down
pub none_nearer : (renames : Renames) (p top : List ℕ) → is_past (length top) (nearest (fin.entries renames) p) ≡ false
    → (d : List ℕ) → lies_below p d ≡ true → lies_below d top ≡ true → fin.get renames d ≡ None
none_nearer renames p top near d above inner = at (fin.get renames d) refl
  where
    at : (o : Option (Option (List ℕ))) → fin.get renames d ≡ o → o ≡ None
    at None said = refl
    at (Some x) said = no (sym (past_if renames p d (length top) x said above (longer d top inner)) ∙ near)

-- the commit's directory that is seen at a directory, whether or not it is a path
abbrev seen_dir : Renames → List ℕ → Option (List ℕ)
seen_dir renames dir = own_or (fin.get renames dir) (source_of renames dir)

-- so what is seen is determined by what is seen at the directory
source_near : (renames : Renames) (p top : List ℕ) → lies_below p top ≡ true → is_past (length top) (nearest (fin.entries renames) p) ≡ false
    → source_of renames p ≡ source_by (Some (top, seen_dir renames top)) p
source_near renames p top below near = by (fin.get renames top) refl
  where
    further : (d : List ℕ) → lies_below p d ≡ true → lies_below d top ≡ true → fin.get renames d ≡ None
    further = none_nearer renames p top near

    by : (o : Option (Option (List ℕ))) → fin.get renames top ≡ o → source_of renames p ≡ source_by (Some (top, own_or (fin.get renames top) (source_of renames top))) p
    by (Some x) said =
        source_is renames p (Some (top, x)) (said, below, further)
        ∙ ap (λ o. source_by (Some (top, own_or o (source_of renames top))) p) (sym said)
    by None said =
        source_is renames p (nearest (fin.entries renames) top) (as_near (nearest (fin.entries renames) top) (nearest-is renames top))
        ∙ on (nearest (fin.entries renames) top) (nearest-is renames top)
        ∙ ap (λ o. source_by (Some (top, own_or o (source_of renames top))) p) (sym said)
      where
        outer : (d : List ℕ) → lies_below p d ≡ true → (lies_below top d ≡ true → fin.get renames d ≡ None) → fin.get renames d ≡ None
        outer d above none = at (nested p d top above below)
          where
            at : (d ≡ top) ⊎ ((lies_below d top ≡ true) ⊎ (lies_below top d ≡ true)) → fin.get renames d ≡ None
            at (inl same) = ap (fin.get renames) same ∙ said
            at (inr (inl inner)) = further d above inner
            at (inr (inr outside)) = none outside

        as_near : (o : Option Entry) → IsNearest renames top o → IsNearest renames p o
        as_near None none = λ d above. outer d above (none d)
        as_near (Some e) is = (is.0, below-trans p top e.0 below is.1, λ d above inner. outer d above (λ outside. is.2 d outside inner))

        on : (o : Option Entry) → IsNearest renames top o → source_by o p ≡ source_by (Some (top, source_by o top)) p
        on None is = ap Some (sym (let at = rest_below p top below in ap (carried top top) at.1 ∙ carried_there top top (47 ∷ at.0) ∙ sym at.1))
        on (Some (t, None)) is = refl
        on (Some (t, Some s)) is =
            let low = rest_below p top below in
            let high = rest_below top t is.1 in
            let whole : p ≡ t ++ (47 ∷ high.0 ++ 47 ∷ low.0) = low.1 ∙ ap (λ q. q ++ 47 ∷ low.0) high.1 ∙ append_assoc t (47 ∷ high.0) (47 ∷ low.0) in
            let straight : carried t s p ≡ s ++ (47 ∷ high.0 ++ 47 ∷ low.0) = ap (carried t s) whole ∙ carried_there t s (47 ∷ high.0 ++ 47 ∷ low.0) in
            let inner : carried t s top ≡ s ++ 47 ∷ high.0 = ap (carried t s) high.1 ∙ carried_there t s (47 ∷ high.0) in
            let twice : carried top (carried t s top) p ≡ (s ++ 47 ∷ high.0) ++ 47 ∷ low.0 =
            ap (carried top (carried t s top)) low.1 ∙ carried_there top (carried t s top) (47 ∷ low.0) ∙ ap (λ q. q ++ 47 ∷ low.0) inner in
            ap Some (straight ∙ sym (append_assoc s (47 ∷ high.0) (47 ∷ low.0)) ∙ sym twice)

-- and so is the file, since a commit has none below what is no path
file_near : (files : FileMap) → ArePaths files → (renames : Renames) (p top : List ℕ) → lies_below p top ≡ true → is_past (length top) (nearest (fin.entries renames) p) ≡ false
    → file_at (seen_through files renames) p ≡ file_from files (source_by (Some (top, source_dir renames top)) p)
file_near files are renames p top below near = file_at-seen files renames p ∙ ap (file_from files) (source_near renames p top below near) ∙ by (fin.get renames top)
  where
    by : (o : Option (Option (List ℕ))) → file_from files (source_by (Some (top, own_or o (source_of renames top))) p) ≡ file_from files (source_by (Some (top, own_or o (path_alone (source_of renames top)))) p)
    by None = sym (alone files are top p below (source_of renames top))
    by (Some x) = refl

-- the nearest one is among the entries
near_passes : (test : Entry → Bool) (p : List ℕ) (e : Entry) (es : List Entry) → nearest es p ≡ Some e → test e ≡ true → list_any test es ≡ true
near_passes test p e [] near passes = is_none e (sym near)
near_passes test p e (x ∷ es) near passes = by (λ near. near_passes test p e es near passes) (nearest es p) refl near
  where
    same : (f g : Entry) → Some f ≡ Some g → f ≡ g
    same f g h = cc

    here : (b : Bool) → (if b then Some x else None) ≡ Some e → list_any test (x ∷ es) ≡ true
    here true is = or_left (test x) _ (ap test (same x e is) ∙ passes)
    here false is = is_none e (sym is)

    by : (nearest es p ≡ Some e → list_any test es ≡ true) → (o : Option Entry) → nearest es p ≡ o → option_or o (if lies_below p x.0 then Some x else None) ≡ Some e → list_any test (x ∷ es) ≡ true
    by rest (Some f) is told_e = or_right (test x) _ (rest (is ∙ told_e))
    by rest None is told_e = here (lies_below p x.0) told_e

-- ---- one directory

module _ (passes : List ℕ → Bool) (files : FileMap) (renames : Renames) (are : ArePaths files) where
  -- a file that is seen below a directory and not passed over
  abbrev pub IsFound : List ℕ → List ℕ → Type 0
  IsFound top p = IsSome (file_at (seen_through files renames) p) × (lies_below p top ≡ true) × (passes p ≡ false)

  abbrev region : List ℕ → Bool
  region top = has_own passes files renames top

  one_found : (top : List ℕ) → region top ≡ true → (p : List ℕ) × IsFound top p
  one_found top has = by (source_dir renames top) refl has
    where
      by : (o : Option (List ℕ)) → source_dir renames top ≡ o → region_has (is_apart renames (length top) passes) files o top ≡ true → (p : List ℕ) × IsFound top p
      by None is some = no (sym some)
      by (Some source) is some =
          let found = passing_file (λ q. lies_below q source && not (is_apart renames (length top) passes (told source top q))) files some in
          let q : List ℕ = found.0 in
          let p : List ℕ = carried source top q in
          let parts = both _ _ found.2 in
          let kept = neither _ _ (negated _ parts.1) in
          let below : lies_below p top ≡ true = carried-below source top q parts.0 in
          let file : file_at (seen_through files renames) p ≡ file_at files q =
          file_near files are renames p top below kept.1 ∙ ap (λ o. file_from files (source_by (Some (top, o)) p)) is ∙ ap (file_at files) (carried-back source top q parts.0) in
          (p, (subst (IsSome {T = _}) (sym file) found.1, below, kept.0))

  one_has : (top p : List ℕ) → IsFound top p → is_past (length top) (nearest (fin.entries renames) p) ≡ false → region top ≡ true
  one_has top p found near = by (source_dir renames top) (subst (IsSome {T = _}) (file_near files are renames p top found.1 near) found.0)
    where
      by : (o : Option (List ℕ)) → IsSome (file_from files (source_by (Some (top, o)) p)) → region_has (is_apart renames (length top) passes) files o top ≡ true
      by None there = no (sym there)
      by (Some source) there =
          let q : List ℕ = carried top source p in
          let again : told source top q ≡ p = carried-back top source p found.1 in
          let shown : is_apart renames (length top) passes (told source top q) ≡ false =
          ap (is_apart renames (length top) passes) again ∙ ap (λ b. b || is_past (length top) (nearest (fin.entries renames) p)) found.2 ∙ near in
          file_passes (λ r. lies_below r source && not (is_apart renames (length top) passes (told source top r))) files q there
          (paired _ _ (carried-below top source p found.1) (ap not shown))

  -- ---- and each further one

  abbrev entry_has : Entry → Bool
  entry_has e = region e.0

  further_found : (top : List ℕ) (es : List Entry) → list_any entry_has (filter (λ e. lies_below e.0 top) es) ≡ true
      → (p : List ℕ) × IsFound top p
  further_found top [] some = no (sym some)
  further_found top (e ∷ es) some =
      elim (lies_below e.0 top) as (λ b. lies_below e.0 top ≡ b → list_any entry_has (cond b (e ∷ filter (λ f. lies_below f.0 top) es) (filter (λ f. lies_below f.0 top) es)) ≡ true → (p : List ℕ) × IsFound top p) [
        | true ↦ λ below some.
            elim (entry_has e) as (λ b. entry_has e ≡ b → (b || list_any entry_has (filter (λ f. lies_below f.0 top) es)) ≡ true → (p : List ℕ) × IsFound top p) [
              | true ↦ λ has _. let found = one_found e.0 has in (found.0, (found.1.0, below-trans found.0 e.0 top found.1.1 below, found.1.2))
              | false ↦ λ _ more. further_found top es more
            ] refl some
        | false ↦ λ _ more. further_found top es more
      ] refl some

  listed_has : (top p : List ℕ) (e : Entry) (es : List Entry) → nearest es p ≡ Some e → lies_below e.0 top ≡ true → entry_has e ≡ true
      → list_any entry_has (filter (λ f. lies_below f.0 top) es) ≡ true
  listed_has top p e [] near below has = is_none e (sym near)
  listed_has top p e (x ∷ es) near below has = by (λ near. listed_has top p e es near below has) (nearest es p) refl near
    where
      same : (f g : Entry) → Some f ≡ Some g → f ≡ g
      same f g h = cc

      later : (b : Bool) → list_any entry_has (filter (λ f. lies_below f.0 top) es) ≡ true
          → list_any entry_has (cond b (x ∷ filter (λ f. lies_below f.0 top) es) (filter (λ f. lies_below f.0 top) es)) ≡ true
      later true more = or_right (entry_has x) _ more
      later false more = more

      here : (b : Bool) → (if b then Some x else None) ≡ Some e → list_any entry_has (filter (λ f. lies_below f.0 top) (x ∷ es)) ≡ true
      here true is =
          let one : x ≡ e = same x e is in
          ap (λ b. list_any entry_has (cond b (x ∷ filter (λ f. lies_below f.0 top) es) (filter (λ f. lies_below f.0 top) es))) (ap (λ (f : Entry). lies_below f.0 top) one ∙ below)
          ∙ or_left _ _ (ap entry_has one ∙ has)
      here false is = is_none e (sym is)

      by : (nearest es p ≡ Some e → list_any entry_has (filter (λ f. lies_below f.0 top) es) ≡ true) → (o : Option Entry) → nearest es p ≡ o → option_or o (if lies_below p x.0 then Some x else None) ≡ Some e
          → list_any entry_has (filter (λ f. lies_below f.0 top) (x ∷ es)) ≡ true
      by rest (Some f) is told_e = later (lies_below x.0 top) (rest (is ∙ told_e))
      by rest None is told_e = here (lies_below p x.0) told_e

  -- a file that is found is found by the directory itself, or by the nearest one above it
  found_by : (top p : List ℕ) → IsFound top p → (region top || list_any entry_has (filter (λ e. lies_below e.0 top) (fin.entries renames))) ≡ true
  found_by top p found = by (nearest (fin.entries renames) p) refl (nearest-is renames p)
    where
      by : (o : Option Entry) → nearest (fin.entries renames) p ≡ o → IsNearest renames p o → (region top || list_any entry_has (filter (λ e. lies_below e.0 top) (fin.entries renames))) ≡ true
      by None is near = or_left _ _ (one_has top p found (ap (is_past (length top)) is))
      by (Some e) is near = at (cases_Bool (nat_lt (length top) (length e.0)))
        where
          at : (nat_lt (length top) (length e.0) ≡ true) ⊎ (nat_lt (length top) (length e.0) ≡ false) → (region top || list_any entry_has (filter (λ e. lies_below e.0 top) (fin.entries renames))) ≡ true
          at (inr short) = or_left _ _ (one_has top p found (ap (is_past (length top)) is ∙ short))
          at (inl long) = or_right (region top) _ (listed_has top p e (fin.entries renames) is (inner (nested p e.0 top near.1 found.1)) own)
            where
              more : length top < length e.0
              more = grind (arith, long)

              inner : (e.0 ≡ top) ⊎ ((lies_below e.0 top ≡ true) ⊎ (lies_below top e.0 ≡ true)) → lies_below e.0 top ≡ true
              inner (inl same) = absurd (let n : length e.0 ≡ length top = ap length same in omega (arith, n, more))
              inner (inr (inl below)) = below
              inner (inr (inr above)) = absurd (let n = longer top e.0 above in omega (arith, n, more))

              own : entry_has e ≡ true
              own = one_has e.0 p (found.0, near.1, found.2) (ap (is_past (length e.0)) is ∙ is_not_less (length e.0))

  pub regions : (top : List ℕ) → (region top || list_any entry_has (filter (λ e. lies_below e.0 top) (fin.entries renames)))
      ≡ list_any (λ p. lies_below p top && not (passes p)) (paths (seen_through files renames))
  regions top = same_bool _ _ to back
    where
      seen : (p : List ℕ) × IsFound top p → list_any (λ p. lies_below p top && not (passes p)) (paths (seen_through files renames)) ≡ true
      seen found = file_passes (λ p. lies_below p top && not (passes p)) (seen_through files renames) found.0 found.1.0 (paired _ _ found.1.1 (ap not found.1.2))

      to : (region top || list_any entry_has (filter (λ e. lies_below e.0 top) (fin.entries renames))) ≡ true → list_any (λ p. lies_below p top && not (passes p)) (paths (seen_through files renames)) ≡ true
      to some = by (region top) refl some
        where
          by : (b : Bool) → region top ≡ b → (b || list_any entry_has (filter (λ e. lies_below e.0 top) (fin.entries renames))) ≡ true
              → list_any (λ p. lies_below p top && not (passes p)) (paths (seen_through files renames)) ≡ true
          by true has some = seen (one_found top has)
          by false has some = seen (further_found top (fin.entries renames) some)

      back : list_any (λ p. lies_below p top && not (passes p)) (paths (seen_through files renames)) ≡ true → (region top || list_any entry_has (filter (λ e. lies_below e.0 top) (fin.entries renames))) ≡ true
      back some =
          let found = passing_file (λ p. lies_below p top && not (passes p)) (seen_through files renames) some in
          let parts = both _ _ found.2 in
          found_by top found.0 (found.1, parts.0, negated _ parts.1)

  -- ---- all that is seen

  -- a file that is seen and not passed over
  abbrev IsSeen : List ℕ → Type 0
  IsSeen p = IsSome (file_at (seen_through files renames) p) × (passes p ≡ false)

  entry_seen : (es : List Entry) → list_any entry_has es ≡ true → (p : List ℕ) × IsSeen p
  entry_seen [] some = no (sym some)
  entry_seen (e ∷ es) some =
      elim (entry_has e) as (λ b. entry_has e ≡ b → (b || list_any entry_has es) ≡ true → (p : List ℕ) × IsSeen p) [
        | true ↦ λ has _. let found = one_found e.0 has in (found.0, (found.1.0, found.1.2))
        | false ↦ λ _ more. entry_seen es more
      ] refl some

  abbrev own_test : List ℕ → Bool
  own_test q = not (is_governed renames q) && not (passes q)

  -- a file that is seen is there in the commit, or the nearest directory above it shows it
  pub all_regions : (list_any (λ q. not (is_governed renames q) && not (passes q)) (paths files) || list_any entry_has (fin.entries renames))
      ≡ list_any (λ q. not (passes q)) (paths (seen_through files renames))
  all_regions = same_bool _ _ (λ some. to (list_any own_test (paths files)) refl some) back
    where
      seen : (p : List ℕ) × IsSeen p → list_any (λ q. not (passes q)) (paths (seen_through files renames)) ≡ true
      seen found = file_passes (λ q. not (passes q)) (seen_through files renames) found.0 found.1.0 (ap not found.1.1)

      to : (b : Bool) → list_any own_test (paths files) ≡ b → (b || list_any entry_has (fin.entries renames)) ≡ true → list_any (λ q. not (passes q)) (paths (seen_through files renames)) ≡ true
      to true has some =
          let found = passing_file own_test files has in
          let parts = both (not (is_governed renames found.0)) (not (passes found.0)) found.2 in
          seen (found.0, (subst (IsSome {T = _}) (sym (own_file files renames found.0 (negated _ parts.0))) found.1, negated _ parts.1))
      to false has some = seen (entry_seen (fin.entries renames) some)

      back : list_any (λ q. not (passes q)) (paths (seen_through files renames)) ≡ true → (list_any own_test (paths files) || list_any entry_has (fin.entries renames)) ≡ true
      back some =
          let found = passing_file (λ q. not (passes q)) (seen_through files renames) some in
          by found.0 found.1 (negated _ found.2) (nearest (fin.entries renames) found.0) refl (nearest-is renames found.0)
        where
          by : (p : List ℕ) → IsSome (file_at (seen_through files renames) p) → passes p ≡ false → (o : Option Entry) → nearest (fin.entries renames) p ≡ o → IsNearest renames p o
              → (list_any own_test (paths files) || list_any entry_has (fin.entries renames)) ≡ true
          by p there kept None is near =
              let free : is_governed renames p ≡ false = governed_near renames p ∙ ap is_some is in
              or_left _ _ (file_passes own_test files p (subst (IsSome {T = _}) (own_file files renames p free) there) (paired (not (is_governed renames p)) (not (passes p)) (ap not free) (ap not kept)))
          by p there kept (Some e) is near =
              or_right (list_any own_test (paths files)) _
              (near_passes entry_has p e (fin.entries renames) is
              (one_has e.0 p (there, near.1, kept) (ap (is_past (length e.0)) is ∙ is_not_less (length e.0))))
