-- What is woven of listed paths and marks is what they show, in byte order.
use Rattle.std.proofs.Common.{◌≡◌, ℕ, Bool, true, false, cond, not, ◌&&◌, ◌||◌, List, [], ◌∷◌, map, Option, Some, None, is_some, refl, sym, ap, subst, ◌∙◌}
use Rattle.std.specs.Prelude.{filter}
use Rattle.std.specs.Option.{unwrap_or}
use Rattle.std.specs.FinMap as fin
use Rattle.std.specs.FinMap.{find}
use Rattle.eden_globs.specs.Filters.{Patterns, admits}
use Rattle.eden_ids.specs.declared.content.Content.{Content}
use Rattle.eden_ids.specs.FileMaps.{FileMap, file_at, has, listing, path_set, paths, same_path}
use Rattle.eden_ids.proofs.ByteOrder.{both, first, second}
use Rattle.eden_ids.proofs.FileMapLemmas.{has-path_set, has-union, has-where, same_path-is}
use Rattle.eden_ids.proofs.Sifted.{has-sifted, keys-sifted, listing_of, sifted}
use Rattle.eden_ids.proofs.TreeMaps.{listing-same}
use Rattle.eden_overlay.specs.Layers.{Entry, Layer, Mark, by_bytes, marks, or_below, over}
use Rattle.eden_overlay.specs.Listings.{absent_in, admitted, present_in, shown_over}
use Rattle.eden_overlay.specs.internal.Woven.{woven}
use Rattle.eden_overlay.proofs.Overs.{file_at-over}
use Rattle.eden_overlay.proofs.Placing.{none_above}
use Rattle.eden_overlay.proofs.Turns.{Above, AreWoven, Rising, among, are_woven, is_woven, pairs}

-- ---- what marks show

-- whether what is found passes a test
abbrev passes : (Bool → Bool) → Option Bool → Bool
passes test None = false
passes test (Some there) = test there

-- a path among the marks that pass a test
among_passed : (test : Bool → Bool) (p : List ℕ) (ms : List Mark) → Rising ms → among p (map (λ m. m.0) (filter (λ m. test m.1) ms)) ≡ passes test (find by_bytes p ms)
among_passed test p [] up = refl
among_passed test p (m ∷ ms) up = by (test m.1) refl (same_path p m.0) refl (among_passed test p ms (second _ _ up))
  where
    passed : List Mark
    passed = filter (λ m. test m.1) ms

    by : (t : Bool) → test m.1 ≡ t → (s : Bool) → same_path p m.0 ≡ s → among p (map (λ m. m.0) passed) ≡ passes test (find by_bytes p ms)
        → among p (map {A = Mark} (λ m. m.0) (cond t (m ∷ passed) passed)) ≡ passes test (cond s (Some m.1) (find by_bytes p ms))
    by true t true s rest = ap (λ b. b || among p (map (λ m. m.0) passed)) s ∙ sym t
    by true t false s rest = ap (λ b. b || among p (map (λ m. m.0) passed)) s ∙ rest
    by false t true s rest = rest ∙ ap (passes test) (none_above p ms (subst (λ q. Above q ms) (sym (same_path-is p m.0 s)) (first _ _ up))) ∙ sym t
    by false t false s rest = rest

-- a path is shown as its mark says, or else as it is below
pub has-shown_over : (base : FileMap) (ms : List Mark) → Rising ms → (p : List ℕ) → has (shown_over base ms) p ≡ unwrap_or (find by_bytes p ms) (is_some (file_at base p))
has-shown_over base ms up p =
    has-union _ (present_in ms) p
    ∙ (λ i. has-where (path_set (paths base)) (λ q. not (has (absent_in ms) q)) p i || has-path_set (map (λ m. m.0) (filter (λ m. m.1) ms)) p i)
    ∙ (λ i. (not ((has-path_set (map (λ m. m.0) (filter (λ m. not m.1) ms)) p ∙ among_passed not p ms up) i) && (has-path_set (paths base) p ∙ sym (fin.contains_key-keys base p)) i)
    || among_passed (λ b. b) p ms up i)
    ∙ by (find by_bytes p ms) (is_some (file_at base p))
  where
    by : (o : Option Bool) (below : Bool) → ((not (passes not o) && below) || passes (λ b. b) o) ≡ unwrap_or o below
    by None true = refl
    by None false = refl
    by (Some true) true = refl
    by (Some true) false = refl
    by (Some false) below = refl

-- ---- what is woven

pub listed : (wanted : Patterns) (base : FileMap) (ms : List Mark) (rows : List (List ℕ)) → Rising ms → rows ≡ admitted wanted base
    → woven wanted rows ms ≡ filter (admits wanted) (listing (shown_over base ms))
listed wanted base ms rows up rows_are =
    ap (λ ps. woven wanted ps ms) (rows_are ∙ sym (keys-sifted base (admits wanted)))
    ∙ sym is
    ∙ listing_of set (shown_over base ms) (admits wanted) (λ p.
    fin.contains_key-keys set p ∙ ap (among p) is ∙ are.has p
    ∙ by (find by_bytes p ms) (admits wanted p) (find by_bytes p (fin.entries files)) (is_some (file_at base p)) (ap is_some (sym (fin.get-entries files p)) ∙ has-sifted base (admits wanted) p)
    ∙ ap (λ b. admits wanted p && b) (sym (has-shown_over base ms up p)))
  where
    files : FileMap
    files = sifted base (admits wanted)

    list : List (List ℕ)
    list = woven wanted (fin.keys files) ms

    are : AreWoven wanted (fin.entries files) ms list
    are = are_woven wanted ms up (fin.entries files) (fin.entries_sorted files)

    set : fin.FinMap by_bytes (Unit {0})
    set = fin.from_sorted (pairs list)

    is : listing set ≡ list
    is = ap (map (λ e. e.0)) (fin.entries-from_sorted by_bytes (pairs list) are.rising) ∙ alone list
      where
        alone : (ps : List (List ℕ)) → map {A = List ℕ × Unit {0}} (λ e. e.0) (pairs ps) ≡ ps
        alone [] = refl
        alone (p ∷ ps) = ap (λ qs. p ∷ qs) (alone ps)

    by : (o : Option Bool) (a : Bool) (row : Option Content) (below : Bool) → is_some row ≡ (a && below) → is_woven a row o ≡ (a && unwrap_or o below)
    by None a row below is = is
    by (Some true) true row below is = refl
    by (Some true) false row below is = refl
    by (Some false) true row below is = refl
    by (Some false) false row below is = refl

-- ---- the marks of an overlay

above_marks : (k : List ℕ) (es : List Entry) → Above k es → Above k (marks es)
above_marks k [] h = tt
above_marks k (e ∷ es) h = both _ _ (first _ _ h) (above_marks k es (second _ _ h))

rising_marks : (es : List Entry) → Rising es → Rising (marks es)
rising_marks [] h = tt
rising_marks (e ∷ es) h = both _ _ (above_marks e.0 es (first _ _ h)) (rising_marks es (second _ _ h))

pub marks_up : (layer : Layer) → Rising (marks (fin.entries layer))
marks_up layer = rising_marks (fin.entries layer) (fin.entries_sorted layer)

-- over a commit they show the paths of the files that are seen
pub layer_shown : (base : FileMap) (layer : Layer) → listing (shown_over base (marks (fin.entries layer))) ≡ paths (over base layer)
layer_shown base layer =
    listing-same (shown_over base (marks (fin.entries layer))) (over base layer) (λ p.
    has-shown_over base (marks (fin.entries layer)) (marks_up layer) p
    ∙ by p (fin.entries layer)
    ∙ ap (λ o. is_some (or_below o (file_at base p))) (sym (fin.get-entries layer p))
    ∙ ap is_some (sym (file_at-over base layer p)))
  where
    by : (p : List ℕ) (es : List Entry) → unwrap_or (find by_bytes p (marks es)) (is_some (file_at base p)) ≡ is_some (or_below (find by_bytes p es) (file_at base p))
    by p [] = refl
    by p (e ∷ es) = here (same_path p e.0) (by p es)
      where
        here : (s : Bool) → unwrap_or (find by_bytes p (marks es)) (is_some (file_at base p)) ≡ is_some (or_below (find by_bytes p es) (file_at base p))
            → unwrap_or (cond s (Some (is_some e.1)) (find by_bytes p (marks es))) (is_some (file_at base p)) ≡ is_some (or_below (cond s (Some e.1) (find by_bytes p es)) (file_at base p))
        here true rest = refl
        here false rest = rest
