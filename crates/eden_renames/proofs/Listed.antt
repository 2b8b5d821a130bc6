-- What the lists of all directories show are the paths at which files are seen.
use Rattle.std.proofs.Common.{◌≡◌, ℕ, Bool, true, false, not, cond, ◌&&◌, ◌||◌, List, [], ◌∷◌, map, length, Option, Some, None, is_some, refl, sym, ap, ◌∙◌}
use Rattle.std.specs.Prelude.{filter}
use Rattle.std.specs.List.{list_any}
use Rattle.std.specs.FinMap as fin
use Rattle.std.proofs.Math.Bool.{and-false}
use Rattle.std.proofs.lemmas.Map.Views.{any-filter_same}
use Rattle.eden_globs.specs.Filters.{Patterns, admits}
use Rattle.eden_ids.specs.declared.content.Content.{Content}
use Rattle.eden_ids.specs.Paths.{lies_below}
use Rattle.eden_ids.specs.FileMaps.{FileMap, file_at, paths, same_path}
use Rattle.eden_ids.specs.Texts.{AreTexts}
use Rattle.eden_ids.proofs.FileMapLemmas.{same_file_map, same_order, same_path-is}
use Rattle.eden_ids.proofs.Sifted.{has-sifted, sifted}
use Rattle.eden_objects.specs.Passing.{is_shown, told}
use Rattle.eden_renames.specs.Renames.{ArePaths, Entry, Renames, at_paths, is_governed, is_path, nearest, seen_through, source_dir}
use Rattle.eden_renames.specs.internal.Listed.{is_listed, is_pathless, list_own, shown_by}
use Rattle.eden_renames.specs.internal.Regions.{has_own, is_apart, is_past, region_has}
use Rattle.eden_renames.proofs.Regions.{all_regions, regions}
use Rattle.eden_renames.proofs.Unsettling.{known_path}

-- ---- one path

-- what a list of one path alone would pass over
abbrev pub all_but : Patterns → List ℕ → List ℕ → Bool
all_but patterns p q = not (same_path p q && (is_path q && admits patterns q))

module _ (files : FileMap) (renames : Renames) (patterns : Patterns) (p top source : List ℕ) where
  abbrev shown : List ℕ → Bool
  shown = is_shown (is_apart renames (length top) is_pathless) patterns

  abbrev is_found : List ℕ → Bool
  is_found q = lies_below q source && not (is_apart renames (length top) (all_but patterns p) (told source top q))

  step : (path admitted here past rest : Bool)
      → cond (not (not path || past) && admitted) (here || rest) rest ≡ (not (not (here && (path && admitted)) || past) || rest)
  step false admitted true past rest = refl
  step false admitted false past rest = refl
  step true false true true rest = refl
  step true false true false rest = refl
  step true false false true rest = refl
  step true false false false rest = refl
  step true true true true rest = refl
  step true true true false rest = refl
  step true true false true rest = refl
  step true true false false rest = refl

  kept : (b : Bool) (t : List ℕ) (ts : List (List ℕ)) → is_listed (cond b (t ∷ ts) ts) p ≡ cond b (same_path p t || is_listed ts p) (is_listed ts p)
  kept true t ts = refl
  kept false t ts = refl

  each_shown : (ps : List (List ℕ)) → is_listed (filter shown (map (told source top) (filter (λ q. lies_below q source) ps))) p ≡ list_any is_found ps
  each_shown [] = refl
  each_shown (q ∷ ps) = by (lies_below q source) (each_shown ps)
    where
      by : (b : Bool) → is_listed (filter shown (map (told source top) (filter (λ q. lies_below q source) ps))) p ≡ list_any is_found ps
          → is_listed (filter shown (map (told source top) (cond b (q ∷ filter (λ q. lies_below q source) ps) (filter (λ q. lies_below q source) ps)))) p
          ≡ ((b && not (is_apart renames (length top) (all_but patterns p) (told source top q))) || list_any is_found ps)
      by false rest = rest
      by true rest =
          let t : List ℕ = told source top q in
          kept (shown t) t (filter shown (map (told source top) (filter (λ q. lies_below q source) ps)))
          ∙ step (is_path t) (admits patterns t) (same_path p t) (is_past (length top) (nearest (fin.entries renames) t)) _
          ∙ ap (λ b. not (is_apart renames (length top) (all_but patterns p) t) || b) rest

-- a directory's list shows a path where a search for that path alone finds it
pub shown_in : (files : FileMap) (renames : Renames) (patterns : Patterns) (p : List ℕ) (e : Entry)
    → is_listed (shown_by files renames patterns e) p ≡ region_has (is_apart renames (length e.0) (all_but patterns p)) files e.1 e.0
shown_in files renames patterns p (top, None) = refl
shown_in files renames patterns p (top, Some source) = each_shown files renames patterns p top source (paths files)

-- one of the directories' lists shows it
any_shown : (files : FileMap) (renames : Renames) (patterns : Patterns) (p : List ℕ) (es : List Entry)
    → list_any (λ e. is_listed (list_own files renames patterns e.0) p) es ≡ list_any (λ e. has_own (all_but patterns p) files renames e.0) es
any_shown files renames patterns p [] = refl
any_shown files renames patterns p (e ∷ es) = λ i. shown_in files renames patterns p (e.0, source_dir renames e.0) i || any_shown files renames patterns p es i

-- a search for one path alone
one_alone : (test wanted : List ℕ → Bool) (p : List ℕ) (ks : List (List ℕ)) → list_any (λ q. test q && not (not (same_path p q && wanted q))) ks ≡ ((test p && wanted p) && is_listed ks p)
one_alone test wanted p [] = sym (and-false (test p && wanted p))
one_alone test wanted p (k ∷ ks) = by (same_path p k) refl (one_alone test wanted p ks)
  where
    here : (a b c : Bool) → ((a && not (not b)) || ((a && b) && c)) ≡ ((a && b) && true)
    here false b c = refl
    here true true c = refl
    here true false c = refl

    other : (a b : Bool) → ((a && false) || b) ≡ b
    other true b = refl
    other false b = refl

    by : (b : Bool) → same_path p k ≡ b → list_any (λ q. test q && not (not (same_path p q && wanted q))) ks ≡ ((test p && wanted p) && is_listed ks p)
        → ((test k && not (not (b && wanted k))) || list_any (λ q. test q && not (not (same_path p q && wanted q))) ks) ≡ ((test p && wanted p) && (b || is_listed ks p))
    by true is rest =
        ap (λ q. (test q && not (not (wanted q))) || list_any (λ q. test q && not (not (same_path p q && wanted q))) ks) (sym (same_path-is p k is))
        ∙ ap (λ b. (test p && not (not (wanted p))) || b) rest
        ∙ here (test p) (wanted p) (is_listed ks p)
    by false is rest = other (test k) _ ∙ rest

-- ---- paths alone

pub file_at-at_paths : (files : FileMap) (p : List ℕ) → file_at (at_paths files) p ≡ cond (is_path p) (file_at files p) None
file_at-at_paths files p = fin.get-retain_keys files is_path p (λ x e. ap is_path (sym (same_order p x e)))

pub has-at_paths : (files : FileMap) (p : List ℕ) → fin.contains_key (at_paths files) p ≡ (is_path p && fin.contains_key files p)
has-at_paths files p = ap is_some (file_at-at_paths files p) ∙ of_cond (is_path p) (file_at files p)
  where
    of_cond : (b : Bool) (o : Option Content) → is_some (cond b o None) ≡ (b && is_some o)
    of_cond true o = refl
    of_cond false o = refl

-- files that keep the limits are at paths
pub at_texts : (files : FileMap) → AreTexts files → ArePaths files
at_texts files are path file at = (are path file at).0.path

pub all_at_paths : (files : FileMap) → AreTexts files → at_paths files ≡ files
all_at_paths files are = same_file_map (at_paths files) files (λ p. file_at-at_paths files p ∙ by p (file_at files p) refl)
  where
    none : (b : Bool) (o : Option Content) → cond b o o ≡ o
    none true o = refl
    none false o = refl

    by : (p : List ℕ) (o : Option Content) → file_at files p ≡ o → cond (is_path p) o None ≡ o
    by p None is = none (is_path p) None
    by p (Some file) is = ap (λ b. cond b (Some file) None) (known_path files are p (ap is_some is))

-- ---- all directories

-- what is seen at a directory itself and by those below it
pub below_known : (files : FileMap) (renames : Renames) (patterns : Patterns) (top p : List ℕ) → AreTexts files
    → (is_listed (list_own files renames patterns top) p || list_any (λ e. is_listed (list_own files renames patterns e.0) p) (filter (λ e. lies_below e.0 top) (fin.entries renames)))
    ≡ (admits patterns p && fin.contains_key (sifted (at_paths (seen_through files renames)) (λ q. lies_below q top)) p)
below_known files renames patterns top p are =
    let seen = seen_through files renames in
    (λ i. shown_in files renames patterns p (top, source_dir renames top) i || any_shown files renames patterns p (filter (λ e. lies_below e.0 top) (fin.entries renames)) i)
    ∙ regions (all_but patterns p) files renames (at_texts files are) top
    ∙ one_alone (λ q. lies_below q top) (λ q. is_path q && admits patterns q) p (paths seen)
    ∙ turned (lies_below p top) (is_path p) (admits patterns p) (is_listed (paths seen) p)
    ∙ ap (λ b. admits patterns p && (lies_below p top && (is_path p && b))) (sym (fin.contains_key-keys seen p))
    ∙ ap (λ b. admits patterns p && (lies_below p top && b)) (sym (has-at_paths seen p))
    ∙ ap (λ b. admits patterns p && b) (sym (has-sifted (at_paths seen) (λ q. lies_below q top) p))
  where
    turned : (b i w c : Bool) → ((b && (i && w)) && c) ≡ (w && (b && (i && c)))
    turned true true true c = refl
    turned true true false c = refl
    turned true false true c = refl
    turned true false false c = refl
    turned false i true c = refl
    turned false i false c = refl

-- what is seen at its own place and by all directories
pub all_known : (files : FileMap) (renames : Renames) (patterns : Patterns) (p : List ℕ) → AreTexts files
    → (is_listed (filter (is_shown (is_governed renames) patterns) (paths files)) p || list_any (λ e. is_listed (list_own files renames patterns e.0) p) (fin.entries renames))
    ≡ (admits patterns p && fin.contains_key (at_paths (seen_through files renames)) p)
all_known files renames patterns p are =
    let seen = seen_through files renames in
    (λ i. own i || any_shown files renames patterns p (fin.entries renames) i)
    ∙ all_regions (all_but patterns p) files renames (at_texts files are)
    ∙ one_alone (λ q. true) (λ q. is_path q && admits patterns q) p (paths seen)
    ∙ turned (is_path p) (admits patterns p) (is_listed (paths seen) p)
    ∙ ap (λ b. admits patterns p && (is_path p && b)) (sym (fin.contains_key-keys seen p))
    ∙ ap (λ b. admits patterns p && b) (sym (has-at_paths seen p))
  where
    turned : (i w c : Bool) → ((i && w) && c) ≡ (w && (i && c))
    turned true true c = refl
    turned true false c = refl
    turned false true c = refl
    turned false false c = refl

    with_path : (a i w c : Bool) → (c ≡ true → i ≡ true) → ((a && w) && c) ≡ ((a && (i && w)) && c)
    with_path a i w false path = and-false (a && w) ∙ sym (and-false (a && (i && w)))
    with_path a i w true path = ap (λ i. (a && (i && w)) && true) (sym (path refl))

    own : is_listed (filter (is_shown (is_governed renames) patterns) (paths files)) p ≡ list_any (λ q. not (is_governed renames q) && not (all_but patterns p q)) (paths files)
    own =
        any-filter_same (λ q. same_path p q) (is_shown (is_governed renames) patterns) (is_shown (is_governed renames) patterns p)
        (λ q same. ap (is_shown (is_governed renames) patterns) (sym (same_path-is p q same))) (paths files)
        ∙ with_path (not (is_governed renames p)) (is_path p) (admits patterns p) (is_listed (paths files) p)
        (λ there. known_path files are p (fin.contains_key-keys files p ∙ there))
        ∙ sym (one_alone (λ q. not (is_governed renames q)) (λ q. is_path q && admits patterns q) p (paths files))
