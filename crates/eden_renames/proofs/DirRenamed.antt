-- What is seen after one more directory was renamed: what was seen below the old path is seen below the new one.
use Rattle.std.proofs.Common.{◌≡◌, ◌≢◌, ℕ, ◌+◌, ◌⊎◌, inl, inr, Bool, true, false, cond, not, nat_lt, ◌||◌, List, [], ◌∷◌, ◌++◌, drop, length, map, Option, Some, None, is_some, refl, sym, ap, subst, ◌∙◌, arith, length-append}
use Rattle.std.specs.Prelude.{IsSome, ◌==◌, if◌then◌else◌}
use Rattle.std.specs.Ordering.{nat_cmp}
use Rattle.std.specs.Cmp.Lexicographic.{slice_cmp, nat_list_cmp_total}
use Rattle.std.specs.List.{list_all}
use Rattle.std.specs.FinMap as fin
use Rattle.std.proofs.lemmas.Bool.{or_left, or_right}
use Rattle.std.proofs.lemmas.List.{append_assoc}
use Rattle.std.proofs.lemmas.List.Folds.{list_any-append}
use Rattle.eden_ids.specs.declared.content.Content.{Content}
use Rattle.eden_ids.specs.declared.path.PathFault.{PathFault}
use Rattle.eden_ids.specs.declared.path.PathFault.TheVariants.{Empty, TooLong, BadComponent, TooDeep}
use Rattle.eden_ids.specs.Paths.{IsPath, components, is_component, lies_below, path_fault}
use Rattle.eden_ids.specs.FileMaps.{FileMap, file_at, same_path}
use Rattle.eden_ids.proofs.FileMapLemmas.{lies_below-itself, same_file_map, same_path-is, same_path-other, same_path-refl}
use Rattle.eden_overlay.specs.Carried.{carried, carried_files}
use Rattle.eden_overlay.proofs.CarriedLemmas.{below-trans, carried-back, carried-below, carried-within, carried_there, file_at-carried, mapped, nested, rest_below}
use Rattle.eden_overlay.proofs.Joined.{and_both, names_joined, no_fault, parts_joined, unless}
use Rattle.eden_renames.specs.Renames.{ArePaths, Entry, Renames, dir_moved, file_from, moved_rule, nearest, own_or, path_alone, put_entry, said_of, seen_through, source_by, source_dir, source_of}
use Rattle.eden_renames.proofs.Nearest.{IsNearest, is_none, nearest-is, no, same_above, source_is}
use Rattle.eden_renames.specs.internal.Listed.{is_listed}
use Rattle.eden_renames.proofs.Seen.{enough, file_at-seen}

-- ---- what a rule says

get-put_entry : (m : Renames) (k : List ℕ) (o : Option (Option (List ℕ))) (d : List ℕ) → fin.get (put_entry m k o) d ≡ cond (same_path d k) o (fin.get m d)
get-put_entry m k None d = fin.get-remove nat_list_cmp_total m k d
get-put_entry m k (Some source) d = fin.get-insert nat_list_cmp_total m k source d

get-said_of : (ds : List (List ℕ)) (rule : List ℕ → Option (Option (List ℕ))) (d : List ℕ) → fin.get (said_of ds rule) d ≡ cond (is_listed ds d) (rule d) None
unfolding said_of
get-said_of [] rule d = fin.get-empty (slice_cmp nat_cmp) d
get-said_of (k ∷ ds) rule d =
    get-put_entry (said_of ds rule) k (rule k) d
    ∙ ap (cond (same_path d k) (rule k)) (get-said_of ds rule d)
    ∙ joined (same_path d k) (λ e. ap rule (sym (same_path-is d k e)))
  where
    joined : (b : Bool) → (b ≡ true → rule k ≡ rule d) → cond b (rule k) (cond (is_listed ds d) (rule d) None) ≡ cond (b || is_listed ds d) (rule d) None
    joined true h = h refl
    joined false h = refl

has_entry : (renames : Renames) (d : List ℕ) → IsSome (fin.get renames d) → is_listed (fin.keys renames) d ≡ true
has_entry renames d some = sym (fin.contains_key-keys renames d) ∙ some

-- the directories of which the rule says something are looked at
looked_at : (renames : Renames) (old new d : List ℕ) → IsSome (moved_rule renames old new d)
    → is_listed (new ∷ old ∷ (fin.keys renames ++ map (carried old new) (fin.keys renames))) d ≡ true
looked_at renames old new d some =
    by (same_path d new) (lies_below d new) (same_path d old) (lies_below d old) refl some
  where
    keys : (is_listed (fin.keys renames) d || is_listed (map (carried old new) (fin.keys renames)) d) ≡ true → is_listed (fin.keys renames ++ map (carried old new) (fin.keys renames)) d ≡ true
    keys one = list_any-append (λ q. same_path d q) (fin.keys renames) (map (carried old new) (fin.keys renames)) ∙ one

    by : (a b c e : Bool) → lies_below d new ≡ b
        → IsSome (if a then Some (source_dir renames old) else if b then fin.get renames (carried new old d) else if c then Some None else if e then None else fin.get renames d)
        → (a || (c || is_listed (fin.keys renames ++ map (carried old new) (fin.keys renames)) d)) ≡ true
    by true b c e below there = refl
    by false true c e below there =
        or_right c _
        (keys (or_right (is_listed (fin.keys renames) d) _
        (subst (λ q. is_listed (map (carried old new) (fin.keys renames)) q ≡ true) (carried-back new old d below)
        (mapped (carried old new) (fin.keys renames) (carried new old d) (has_entry renames (carried new old d) there)))))
    by false false true e below there = refl
    by false false false true below there = absurd (let bad : false ≡ true = there in cc)
    by false false false false below there = keys (or_left _ _ (has_entry renames d there))

pub get-dir_moved : (renames : Renames) (old new d : List ℕ) → fin.get (dir_moved renames old new) d ≡ moved_rule renames old new d
unfolding dir_moved
get-dir_moved renames old new d =
    get-said_of (new ∷ old ∷ (fin.keys renames ++ map (carried old new) (fin.keys renames))) (moved_rule renames old new) d
    ∙ enough (is_listed (new ∷ old ∷ (fin.keys renames ++ map (carried old new) (fin.keys renames))) d) (moved_rule renames old new d) (looked_at renames old new d)

by_tests : (renames : Renames) (old new d : List ℕ) {a b c e : Bool} → same_path d new ≡ a → lies_below d new ≡ b → same_path d old ≡ c → lies_below d old ≡ e
    → fin.get (dir_moved renames old new) d
    ≡ (if a then Some (source_dir renames old) else if b then fin.get renames (carried new old d) else if c then Some None else if e then None else fin.get renames d)
by_tests renames old new d is within was from =
    get-dir_moved renames old new d
    ∙ (λ i. if is i then Some (source_dir renames old) else if within i then fin.get renames (carried new old d) else
    if was i then Some None else if from i then None else fin.get renames d)

-- a directory isn't the one above it
below_apart : (d top : List ℕ) → lies_below d top ≡ true → d ≢ top
below_apart d top below same = no (sym below ∙ ap (λ k. lies_below k top) same ∙ lies_below-itself top)

get-new : (renames : Renames) (old new : List ℕ) → fin.get (dir_moved renames old new) new ≡ Some (source_dir renames old)
get-new renames old new = by_tests renames old new new (same_path-refl new) refl refl refl

get-within : (renames : Renames) (old new d : List ℕ) → lies_below d new ≡ true → fin.get (dir_moved renames old new) d ≡ fin.get renames (carried new old d)
get-within renames old new d below = by_tests renames old new d (same_path-other d new (below_apart d new below)) below refl refl

-- ---- places after two directories

pub carried-longer : (old new top rest : List ℕ) → lies_below top old ≡ true → carried old new (top ++ rest) ≡ carried old new top ++ rest
carried-longer old new top rest below =
    let at = rest_below top old below in
    ap (λ t. carried old new (t ++ rest)) at.1
    ∙ ap (carried old new) (append_assoc old (47 ∷ at.0) rest)
    ∙ carried_there old new (47 ∷ (at.0 ++ rest))
    ∙ sym (append_assoc new (47 ∷ at.0) rest)
    ∙ ap (λ t. t ++ rest) (sym (carried_there old new (47 ∷ at.0)) ∙ ap (carried old new) (sym at.1))

-- if a directory and what is below it are carried, what is below it is below it the same
carried-deeper : (old new source top path : List ℕ) → lies_below top old ≡ true → lies_below path top ≡ true
    → carried (carried old new top) source (carried old new path) ≡ carried top source path
carried-deeper old new source top path below under =
    let at = rest_below path top under in
    ap (λ p. carried (carried old new top) source (carried old new p)) at.1
    ∙ ap (carried (carried old new top) source) (carried-longer old new top (47 ∷ at.0) below)
    ∙ carried_there (carried old new top) source (47 ∷ at.0)
    ∙ sym (carried_there top source (47 ∷ at.0))
    ∙ ap (carried top source) (sym at.1)

-- ---- a directory that is no path

-- a directory above a path is a path
pub path_above : (top rest : List ℕ) → IsPath (top ++ 47 ∷ rest) → IsPath top
path_above top rest is =
    let filled = no_fault (length (top ++ 47 ∷ rest) == 0) Empty _ is in
    let short = no_fault (nat_lt 1024 (length (top ++ 47 ∷ rest))) TooLong _ filled.1 in
    let named = no_fault (not (list_all is_component (components (top ++ 47 ∷ rest)))) BadComponent _ short.1 in
    let flat = no_fault (nat_lt 64 (length (components (top ++ 47 ∷ rest)))) TooDeep None named.1 in
    let long : length (top ++ 47 ∷ rest) ≡ length top + length (47 ∷ rest) = length-append top (47 ∷ rest) in
    let many : length (components (top ++ 47 ∷ rest)) ≡ length (components top) + length (components rest) =
    ap length (parts_joined top rest) ∙ length-append (components top) (components rest) in
    let names : list_all is_component (components top) ≡ true =
    (and_both (list_all is_component (components top)) (list_all is_component (components rest)) (sym (names_joined top rest) ∙ unless _ named.0)).0 in
    by (length top == 0) (nat_lt 1024 (length top)) (nat_lt 64 (length (components top)))
    (some top names)
    (grind (arith, long, short.0))
    names
    (grind (arith, many, flat.0))
  where
    some : (top : List ℕ) → list_all is_component (components top) ≡ true → (length top == 0) ≡ false
    some [] names = no (sym names)
    some (b ∷ top) names = grind arith

    by : (empty long deep : Bool) → empty ≡ false → long ≡ false → list_all is_component (components top) ≡ true → deep ≡ false
        → (if empty then Some Empty else if long then Some TooLong else if not (list_all is_component (components top)) then Some BadComponent else
        if deep then Some TooDeep else None) ≡ None
    by empty long deep a b c d =
        (λ i. if a i then Some Empty else if b i then Some TooLong else if not (c i) then Some BadComponent else if d i then Some TooDeep else None)

-- so no file is seen below what is no path
no_files_below : (files : FileMap) → ArePaths files → (source : List ℕ) (fault : PathFault) → path_fault source ≡ Some fault → (rest : List ℕ)
    → file_at files (source ++ 47 ∷ rest) ≡ None
no_files_below files are source fault is rest = by (file_at files (source ++ 47 ∷ rest)) refl
  where
    by : (o : Option Content) → file_at files (source ++ 47 ∷ rest) ≡ o → o ≡ None
    by None at = refl
    by (Some file) at = is_none fault (sym is ∙ path_above source rest (are (source ++ 47 ∷ rest) file at))

-- where a file is seen below a directory, it is seen through a path
pub alone : (files : FileMap) → ArePaths files → (new p : List ℕ) → lies_below p new ≡ true → (source : Option (List ℕ))
    → file_from files (source_by (Some (new, path_alone source)) p) ≡ file_from files (source_by (Some (new, source)) p)
alone files are new p into None = refl
alone files are new p into (Some source) = by (path_fault source) refl
  where
    by : (fault : Option PathFault) → path_fault source ≡ fault
        → file_from files (source_by (Some (new, if is_some fault then None else Some source)) p) ≡ file_at files (carried new source p)
    by None is = refl
    by (Some fault) is =
        let at = rest_below p new into in
        sym (ap (λ q. file_at files (carried new source q)) at.1 ∙ ap (file_at files) (carried_there new source (47 ∷ at.0)) ∙ no_files_below files are source fault is at.0)

-- ---- below the new path

module _ (renames : Renames) (old new p : List ℕ) (into : lies_below p new ≡ true) where
  within : lies_below (carried new old p) old ≡ true
  within = carried-below new old p into

  -- a directory between the new path and the path has what was at its place
  between : (d : List ℕ) → lies_below p d ≡ true → lies_below d new ≡ true → lies_below (carried new old p) (carried new old d) ≡ true
  between d above below = carried-within new old p d into below ∙ above

  at_new : (source : Option (List ℕ)) → source_dir renames old ≡ source
      → ((d : List ℕ) → lies_below (carried new old p) d ≡ true → lies_below d old ≡ true → fin.get renames d ≡ None)
      → IsNearest (dir_moved renames old new) p (Some (new, source))
  at_new source is none = (
    get-new renames old new ∙ ap Some is,
    into,
    λ d above below. get-within renames old new d below ∙ none (carried new old d) (between d above below) (carried-below new old d below),
  )

  -- what an entry at the old path shows
  same_place : (source : Option (List ℕ)) → source_by (Some (new, source)) p ≡ source_by (Some (old, source)) (carried new old p)
  same_place None = refl
  same_place (Some source) = ap Some (sym (carried_there old source (drop (length new) p)))

  -- what an entry above the old path shows
  from_above : (top : List ℕ) (source : Option (List ℕ)) → lies_below old top ≡ true
      → source_by (Some (new, source_by (Some (top, source)) old)) p ≡ source_by (Some (top, source)) (carried new old p)
  from_above top None over = refl
  from_above top (Some source) over = ap Some (sym (carried-longer top source old (drop (length new) p) over))

  -- what an entry below the old path shows
  from_below : (top : List ℕ) (source : Option (List ℕ)) → lies_below top old ≡ true → lies_below (carried new old p) top ≡ true
      → source_by (Some (carried old new top, source)) p ≡ source_by (Some (top, source)) (carried new old p)
  from_below top None below under = refl
  from_below top (Some source) below under =
      ap Some
      (ap (carried (carried old new top) source) (sym (carried-back new old p into))
      ∙ carried-deeper old new source top (carried new old p) below under)

  by_none : (files : FileMap) → ArePaths files → ((d : List ℕ) → lies_below (carried new old p) d ≡ true → fin.get renames d ≡ None)
      → file_from files (source_of (dir_moved renames old new) p) ≡ file_at files (carried new old p)
  by_none files are none =
      let above : source_of renames old ≡ Some old = source_is renames old None (λ d over. none d (below-trans (carried new old p) old d within over)) in
      ap (file_from files)
      (source_is (dir_moved renames old new) p (Some (new, path_alone (Some old)))
      (at_new (path_alone (Some old)) (ap (λ o. own_or o (path_alone (source_of renames old))) (none old within) ∙ ap path_alone above) (λ d under below. none d under)))
      ∙ alone files are new p into (Some old)

  by_same : (top : List ℕ) (source : Option (List ℕ)) → IsNearest renames (carried new old p) (Some (top, source)) → top ≡ old
      → source_of (dir_moved renames old new) p ≡ source_by (Some (top, source)) (carried new old p)
  by_same top source near same =
      source_is (dir_moved renames old new) p (Some (new, source))
      (at_new source (ap (λ o. own_or o (path_alone (source_of renames old))) (ap (fin.get renames) (sym same) ∙ near.0))
      (λ d under below. near.2 d under (ap (lies_below d) same ∙ below)))
      ∙ same_place source
      ∙ ap (λ t. source_by (Some (t, source)) (carried new old p)) (sym same)

  by_above : (files : FileMap) → ArePaths files → (top : List ℕ) (source : Option (List ℕ)) → IsNearest renames (carried new old p) (Some (top, source)) → lies_below old top ≡ true
      → file_from files (source_of (dir_moved renames old new) p) ≡ file_from files (source_by (Some (top, source)) (carried new old p))
  by_above files are top source near over =
      let above : source_of renames old ≡ source_by (Some (top, source)) old =
      source_is renames old (Some (top, source)) (near.0, over, λ d up below. near.2 d (below-trans (carried new old p) old d within up) below) in
      ap (file_from files)
      (source_is (dir_moved renames old new) p (Some (new, path_alone (source_by (Some (top, source)) old)))
      (at_new (path_alone (source_by (Some (top, source)) old)) (ap (λ o. own_or o (path_alone (source_of renames old))) (near.2 old within over) ∙ ap path_alone above)
      (λ d under below. near.2 d under (below-trans d old top below over))))
      ∙ alone files are new p into (source_by (Some (top, source)) old)
      ∙ ap (file_from files) (from_above top source over)

  by_below : (top : List ℕ) (source : Option (List ℕ)) → IsNearest renames (carried new old p) (Some (top, source)) → lies_below top old ≡ true
      → source_of (dir_moved renames old new) p ≡ source_by (Some (top, source)) (carried new old p)
  by_below top source near below =
      let there : lies_below (carried old new top) new ≡ true = carried-below old new top below in
      let back : carried new old (carried old new top) ≡ top = carried-back old new top below in
      source_is (dir_moved renames old new) p (Some (carried old new top, source)) (
        get-within renames old new (carried old new top) there ∙ ap (fin.get renames) back ∙ near.0,
        ap (λ q. lies_below q (carried old new top)) (sym (carried-back new old p into)) ∙ carried-within old new (carried new old p) top within below ∙ near.1,
        λ d above under.
            let deep : lies_below d new ≡ true = below-trans d (carried old new top) new under there in
            get-within renames old new d deep
            ∙ near.2 (carried new old d) (between d above deep)
            (ap (lies_below (carried new old d)) (sym back) ∙ carried-within new old d (carried old new top) deep there ∙ under),
      )
      ∙ from_below top source below near.1

  pub seen-into : (files : FileMap) → ArePaths files → file_from files (source_of (dir_moved renames old new) p) ≡ file_from files (source_of renames (carried new old p))
  seen-into files are = by (nearest (fin.entries renames) (carried new old p)) (nearest-is renames (carried new old p))
    where
      placed : (top : List ℕ) (source : Option (List ℕ)) → IsNearest renames (carried new old p) (Some (top, source))
          → (top ≡ old) ⊎ ((lies_below top old ≡ true) ⊎ (lies_below old top ≡ true))
          → file_from files (source_of (dir_moved renames old new) p) ≡ file_from files (source_by (Some (top, source)) (carried new old p))
      placed top source near (inl same) = ap (file_from files) (by_same top source near same)
      placed top source near (inr (inl below)) = ap (file_from files) (by_below top source near below)
      placed top source near (inr (inr over)) = by_above files are top source near over

      by : (o : Option Entry) → IsNearest renames (carried new old p) o
          → file_from files (source_of (dir_moved renames old new) p) ≡ file_from files (source_by o (carried new old p))
      by None none = by_none files are none
      by (Some e) near = placed e.0 e.1 near (nested (carried new old p) e.0 old near.1 within)

-- ---- elsewhere

-- where a path isn't below a directory, none above the path is the directory or below it
not_within : (p new d : List ℕ) → lies_below p new ≡ false → lies_below p d ≡ true → lies_below d new ≡ false
not_within p new d apart above = by (lies_below d new) refl
  where
    by : (b : Bool) → lies_below d new ≡ b → b ≡ false
    by true is = no (sym (below-trans p d new above is) ∙ apart)
    by false is = refl

not_that : (p new d : List ℕ) → lies_below p new ≡ false → lies_below p d ≡ true → same_path d new ≡ false
not_that p new d apart above = same_path-other d new (λ same. no (sym above ∙ ap (lies_below p) same ∙ apart))

source-outof : (renames : Renames) (old new p : List ℕ) → lies_below p new ≡ false → lies_below p old ≡ true → source_of (dir_moved renames old new) p ≡ None
source-outof renames old new p into outof =
    source_is (dir_moved renames old new) p (Some (old, None)) (
      by_tests renames old new old (not_that p new old into outof) (not_within p new old into outof) (same_path-refl old) refl,
      outof,
      λ d above below. by_tests renames old new d (not_that p new d into above) (not_within p new d into above) (same_path-other d old (below_apart d old below)) below,
    )

source-elsewhere : (renames : Renames) (old new p : List ℕ) → lies_below p new ≡ false → lies_below p old ≡ false → source_of (dir_moved renames old new) p ≡ source_of renames p
source-elsewhere renames old new p into outof =
    source_is (dir_moved renames old new) p (nearest (fin.entries renames) p)
    (same_above renames (dir_moved renames old new) p (nearest (fin.entries renames) p)
    (λ d above. by_tests renames old new d (not_that p new d into above) (not_within p new d into above) (not_that p old d outof above) (not_within p old d outof above))
    (nearest-is renames p))

-- ---- the files

-- what was seen below the old path is seen below the new one, and all else as before
pub seen-dir_moved : (files : FileMap) (renames : Renames) (old new : List ℕ) → ArePaths files
    → seen_through files (dir_moved renames old new) ≡ carried_files (seen_through files renames) old new
seen-dir_moved files renames old new are =
    same_file_map (seen_through files (dir_moved renames old new)) (carried_files (seen_through files renames) old new)
    (λ p. file_at-seen files (dir_moved renames old new) p ∙ by p (lies_below p new) (lies_below p old) refl refl ∙ sym (file_at-carried (seen_through files renames) old new p))
  where
    by : (p : List ℕ) (a b : Bool) → lies_below p new ≡ a → lies_below p old ≡ b
        → file_from files (source_of (dir_moved renames old new) p)
        ≡ (if a then file_at (seen_through files renames) (carried new old p) else if b then None else file_at (seen_through files renames) p)
    by p true b into outof = seen-into renames old new p into files are ∙ sym (file_at-seen files renames (carried new old p))
    by p false true into outof = ap (file_from files) (source-outof renames old new p into outof)
    by p false false into outof = ap (file_from files) (source-elsewhere renames old new p into outof) ∙ sym (file_at-seen files renames p)
