-- Where no entry governs a path the commit's own file is seen there; and each path at which a file is seen after a rename is one.
use Rattle.std.proofs.Common.{◌≡◌, ℕ, ◌<◌, Bool, true, false, ◌&&◌, ◌||◌, List, ◌∷◌, ◌++◌, length, Option, Some, None, is_some, refl, sym, ap, subst, ◌∙◌, arith, nat_lt, ◌≤◌, Result, Ok, Err, OnOk}
use Rattle.std.specs.Prelude.{IsOk, IsSome, ◌==◌, if◌then◌else◌}
use Rattle.std.specs.Option.{is_none}
use Rattle.std.specs.Result.{is_err}
use Rattle.std.specs.FinMap as fin
use Rattle.std.proofs.lemmas.Bool.{or_parts}
use Rattle.eden_ids.specs.declared.content.Content.{Content}
use Rattle.eden_ids.specs.declared.path.PathFault.TheVariants.{Empty, TooLong}
use Rattle.eden_ids.specs.Paths.{IsPath, lies_below}
use Rattle.eden_ids.specs.FileMaps.{FileMap, file_at, has, path_set, paths}
use Rattle.eden_ids.specs.Texts.{AreBytes, AreTexts, IsContentText, IsPathText}
use Rattle.eden_ids.proofs.FileMapLemmas.{has-append, has-path_set, has-where, unlisted}
use Rattle.eden_ids.proofs.Members.{all_joined, all_parts}
use Rattle.eden_overlay.specs.Carried.{carried, carried_files}
use Rattle.eden_overlay.proofs.CarriedLemmas.{carried-back, carried-below, carried_there, file_at-carried, rest_below}
use Rattle.eden_overlay.proofs.Joined.{no_fault}
use Rattle.eden_renames.specs.Renames.{Renames, file_from, is_governed, is_path, seen_through, source_of, unsettled}
use Rattle.eden_renames.proofs.Nearest.{is_none as none_some, no, source_is}
use Rattle.eden_renames.proofs.Seen.{file_at-seen}

-- ---- the commit's own files

absent : {X : Type 0} (o : Option X) → is_some o ≡ false → o ≡ None
absent None e = refl
absent (Some x) e = no e

-- no entry is above the path
own_source : (renames : Renames) (p : List ℕ) → is_governed renames p ≡ false → source_of renames p ≡ Some p
own_source renames p free =
    source_is renames p None
    (λ d above. absent (fin.get renames d) (by d above (fin.contains_key renames d) refl))
  where
    by : (d : List ℕ) → lies_below p d ≡ true → (b : Bool) → fin.contains_key renames d ≡ b → b ≡ false
    by d above true is = no (sym above ∙ unlisted (λ top. lies_below p top) (fin.keys renames) d free (sym (fin.contains_key-keys renames d) ∙ is))
    by d above false is = refl

pub own_file : (files : FileMap) (renames : Renames) (p : List ℕ) → is_governed renames p ≡ false → file_at (seen_through files renames) p ≡ file_at files p
own_file files renames p free = file_at-seen files renames p ∙ ap (file_from files) (own_source renames p free)

pub has-unsettled : (files : FileMap) (renames : Renames) (p : List ℕ)
    → has (unsettled files renames) p ≡ ((is_governed renames p && is_path p) && (is_some (file_at files p) || is_some (file_at (seen_through files renames) p)))
unfolding unsettled
has-unsettled files renames p =
    has-where (path_set (paths files ++ paths (seen_through files renames))) (λ path. is_governed renames path && is_path path) p
    ∙ ap (λ b. (is_governed renames p && is_path p) && b)
    (has-append (paths files) (paths (seen_through files renames)) p
    ∙ (λ i. has-path_set (paths files) p i || has-path_set (paths (seen_through files renames)) p i)
    ∙ (λ i. sym (fin.contains_key-keys files p) i || sym (fin.contains_key-keys (seen_through files renames) p) i))

-- outside of the unsettled paths the files that are seen are the commit's
pub settled : (files : FileMap) (renames : Renames) (p : List ℕ) → IsPath p → has (unsettled files renames) p ≡ false → file_at (seen_through files renames) p ≡ file_at files p
settled files renames p path out = by (is_governed renames p) refl (ap (λ b. (is_governed renames p && b) && (is_some (file_at files p) || is_some (file_at (seen_through files renames) p))) (sym (ap is_none path)) ∙ sym (has-unsettled files renames p) ∙ out)
  where
    by : (b : Bool) → is_governed renames p ≡ b → ((b && true) && (is_some (file_at files p) || is_some (file_at (seen_through files renames) p))) ≡ false → file_at (seen_through files renames) p ≡ file_at files p
    by true is gone =
        let parts = or_parts (is_some (file_at files p)) (is_some (file_at (seen_through files renames) p)) gone in
        absent (file_at (seen_through files renames) p) parts.1 ∙ sym (absent (file_at files p) parts.0)
    by false is gone = own_file files renames p is

-- ---- paths

-- a path that was moved has the bytes of the new directory and of the old path
moved_bytes : (old new p : List ℕ) → lies_below p new ≡ true → AreBytes new → AreBytes (carried new old p) → AreBytes p
moved_bytes old new p into there bytes =
    let at = rest_below p new into in
    let place : carried new old p ≡ old ++ 47 ∷ at.0 = ap (carried new old) at.1 ∙ carried_there new old (47 ∷ at.0) in
    let rest = (all_parts (λ b. b < 256) old (47 ∷ at.0) (subst AreBytes place bytes)).1 in
    subst AreBytes (sym at.1) (all_joined (λ b. b < 256) new (47 ∷ at.0) there rest)

-- where each moved path is a path, all stay paths, and the files stay within their limits
pub carried_texts : (files : FileMap) (old new : List ℕ) → AreTexts files → AreBytes new
    → ((p : List ℕ) → IsSome (file_at files p) → lies_below p old ≡ true → IsPath (carried old new p)) → AreTexts (carried_files files old new)
carried_texts files old new are there renamed p file at = by (lies_below p new) (lies_below p old) refl (sym (file_at-carried files old new p) ∙ at)
  where
    by : (into outof : Bool) → lies_below p new ≡ into
        → (if into then file_at files (carried new old p) else if outof then None else file_at files p) ≡ Some file → IsPathText p × IsContentText file
    by true outof into is =
        let text = are (carried new old p) file is in
        let back : carried old new (carried new old p) ≡ p = carried-back new old p into in (
          record {
            path = subst IsPath back (renamed (carried new old p) (ap is_some is) (carried-below new old p into));
            bytes = moved_bytes old new p into there text.0.bytes;
          },
          text.1,
        )
    by false true into is = none_some file (sym is)
    by false false into is = are p file is

-- ---- what is longer than a path

pub no_long : (path : List ℕ) → IsPath path → 1024 < length path → ⊥
no_long path is long =
    let short = (no_fault (nat_lt 1024 (length path)) TooLong _ (no_fault (length path == 0) Empty _ is).1).0 in
    let bad : length path ≤ 1024 = grind (arith, short) in
    absurd (omega (arith, bad, long))

pub too_long : (files : FileMap) → AreTexts files → (path : List ℕ) → 1024 < length path → None ≡ file_at files path
too_long files are path long = by (file_at files path) refl
  where
    by : (o : Option Content) → file_at files path ≡ o → None ≡ file_at files path
    by None is = sym is
    by (Some file) is = absurd (no_long path (are path file is).0.path long)

-- a growth of a buffer that was refused, and one that was not
pub refused : {A E : Type 0} (r : Result A E) (n most : ℕ) → (n ≤ most → IsOk r) → is_err r ≡ true → most < n
refused (Ok x) n most fits bad = no (sym bad)
refused (Err e) n most fits bad = by (nat_lt most n) refl
  where
    by : (b : Bool) → nat_lt most n ≡ b → most < n
    by true is = grind (arith, is)
    by false is = let within : n ≤ most = grind (arith, is) in no (sym (fits within))

pub granted : {A E : Type 0} (P : Type 0) (r : Result A E) → is_err r ≡ false → OnOk r P → P
granted P (Ok x) good h = h
granted P (Err e) good h = no good
