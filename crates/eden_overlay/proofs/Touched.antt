-- The dirty paths are those entries of the overlay that differ from what is below them.
use Rattle.std.proofs.Common.{◌≡◌, ℕ, ◌+◌, ◌<◌, ◌≤◌, ◌++◌, suc, zero, Bool, true, false, cond, not, ◌&&◌, List, [], ◌∷◌, map, take, length, Option, Some, None, is_some, refl, sym, ap, ◌∙◌, arith, add-one}
use Rattle.std.specs.Prelude.{filter}
use Rattle.std.specs.List.{AllByRecursion, slice_index_or}
use Rattle.std.specs.FinMap as fin
use Rattle.eden_ids.specs.declared.content.Content.{Content}
use Rattle.eden_ids.specs.FileMaps.{FileMap, file_at, same_file, differ, listing, has, path_set, put_option}
use Rattle.eden_ids.proofs.FileMapLemmas.{has-differ, same_file-refl, has-path_set}
use Rattle.eden_ids.proofs.TreeMaps.{entries_found, listing-same}
use Rattle.eden_overlay.specs.Layers.{Layer, Entry, over, marks, marked}
use Rattle.eden_ids.proofs.Sifted.{listing_of}
use Rattle.eden_overlay.proofs.Overs.{file_below, file_told, over-insert, over-remove}

-- the paths of the entries that pass a test
abbrev pub kept : (Entry → Bool) → List Entry → List (List ℕ)
kept test es = map (λ e. e.0) (filter test es)

kept_suc : (test : Entry → Bool) (es : List Entry) (i : ℕ) (e : Entry) → i < length es → e ≡ slice_index_or es i e
    → kept test (take (suc i) es) ≡ kept test (take i es) ++ cond (test e) (e.0 ∷ []) []
kept_suc test [] i e within is = absurd (omega arith)
kept_suc test (x ∷ es) zero e within is = ap (λ f. map (λ e. e.0) (cond (test f) (f ∷ []) [])) (sym is) ∙ one (test e)
  where
    one : (b : Bool) → map (λ e. e.0) (cond b (e ∷ []) []) ≡ cond b (e.0 ∷ []) []
    one true = refl
    one false = refl
kept_suc test (x ∷ es) (suc i) e within is =
    let rest = kept_suc test es i e (omega arith) is in
    elim (test x) as (λ b. map (λ e. e.0) (cond b (x ∷ filter test (take (suc i) es)) (filter test (take (suc i) es))) ≡ map (λ e. e.0) (cond b (x ∷ filter test (take i es)) (filter test (take i es))) ++ cond (test e) (e.0 ∷ []) []) [
      | true ↦ ap (λ ps. x.0 ∷ ps) rest
      | false ↦ rest
    ]

pub kept_more : (test : Entry → Bool) (es : List Entry) (i : ℕ) (e : Entry) → i < length es → e ≡ slice_index_or es i e
    → kept test (take (i + 1) es) ≡ kept test (take i es) ++ cond (test e) (e.0 ∷ []) []
kept_more test es i e within is = ap (λ n. kept test (take n es)) (add-one i) ∙ kept_suc test es i e within is

abbrev pub is_other : FileMap → Entry → Bool
is_other base e = not (same_file e.1 (file_at base e.0))

other_keys : (base : FileMap) (layer : Layer) (es : List Entry) → AllByRecursion (λ e. fin.get layer e.0 ≡ Some e.1) es
    → kept (is_other base) es ≡ filter (λ p. not (same_file (file_at (over base layer) p) (file_at base p))) (map (λ e. e.0) es)
other_keys base layer [] all = refl
other_keys base layer (e ∷ es) all =
    let rest = other_keys base layer es all.1 in
    let same : is_other base e ≡ not (same_file (file_at (over base layer) e.0) (file_at base e.0)) =
    ap (λ f. not (same_file f (file_at base e.0))) (sym (file_told base layer e.0 e.1 all.0)) in
    step (is_other base e) rest ∙ ap (λ b. cond b (e.0 ∷ filter (λ p. not (same_file (file_at (over base layer) p) (file_at base p))) (map (λ e. e.0) es)) (filter (λ p. not (same_file (file_at (over base layer) p) (file_at base p))) (map (λ e. e.0) es))) same
  where
    step : (b : Bool) {ps : List (List ℕ)} → kept (is_other base) es ≡ ps → map (λ e. e.0) (cond b (e ∷ filter (is_other base) es) (filter (is_other base) es)) ≡ cond b (e.0 ∷ ps) ps
    step true h = ap (λ ps. e.0 ∷ ps) h
    step false h = h

pub dirty_listed : (base : FileMap) (layer : Layer) → kept (is_other base) (fin.entries layer) ≡ listing (differ (over base layer) base)
dirty_listed base layer =
    other_keys base layer (fin.entries layer) (entries_found layer)
    ∙ sym (listing_of (differ (over base layer) base) layer (λ p. not (same_file (file_at (over base layer) p) (file_at base p)))
    (λ p. has-differ (over base layer) base p ∙ touched p (fin.get layer p) refl))
  where
    and_true : (b : Bool) → b ≡ (b && true)
    and_true true = refl
    and_true false = refl

    touched : (p : List ℕ) (o : Option (Option Content)) → fin.get layer p ≡ o
        → not (same_file (file_at (over base layer) p) (file_at base p)) ≡ (not (same_file (file_at (over base layer) p) (file_at base p)) && is_some (fin.get layer p))
    touched p None is =
        let clean : not (same_file (file_at (over base layer) p) (file_at base p)) ≡ false =
        ap (λ f. not (same_file f (file_at base p))) (file_below base layer p is) ∙ ap not (same_file-refl (file_at base p)) in
        clean ∙ sym (ap (λ b. b && is_some (fin.get layer p)) clean)
    touched p (Some f) is =
        and_true (not (same_file (file_at (over base layer) p) (file_at base p)))
        ∙ ap (λ o. not (same_file (file_at (over base layer) p) (file_at base p)) && is_some o) (sym is)

pub take_whole : (es : List Entry) (n : ℕ) → length es ≤ n → take n es ≡ es
take_whole [] zero h = refl
take_whole [] (suc n) h = refl
take_whole (e ∷ es) zero h = absurd (omega arith)
take_whole (e ∷ es) (suc n) h = ap (λ fs. e ∷ fs) (take_whole es n (omega arith))

-- ---- the touched paths

pub seen_more : (es : List Entry) (i : ℕ) (e : Entry) → i < length es → e ≡ slice_index_or es i e
    → marks (take (i + 1) es) ≡ marks (take i es) ++ ((e.0, is_some e.1) ∷ [])
seen_more es i e within is = ap (λ n. marks (take n es)) (add-one i) ∙ by es i within is
  where
    by : (es : List Entry) (i : ℕ) → i < length es → e ≡ slice_index_or es i e
        → marks (take (suc i) es) ≡ marks (take i es) ++ ((e.0, is_some e.1) ∷ [])
    by [] i within is = absurd (omega arith)
    by (x ∷ xs) zero within is = ap (λ f. marks (f ∷ [])) (sym is)
    by (x ∷ xs) (suc i) within is = ap (λ ps. (x.0, is_some x.1) ∷ ps) (by xs i (omega arith) is)

pub seen_keys : (es : List Entry) → marked (marks es) ≡ map {A = Entry} (λ e. e.0) es
seen_keys [] = refl
seen_keys (e ∷ es) = ap (λ ps. e.0 ∷ ps) (seen_keys es)

pub has-touched : (layer : Layer) (p : List ℕ) → has (path_set (fin.keys layer)) p ≡ is_some (fin.get layer p)
has-touched layer p = has-path_set (fin.keys layer) p ∙ sym (fin.contains_key-keys layer p)

pub touched_listed : (layer : Layer) → marked (marks (fin.entries layer)) ≡ listing (path_set (fin.keys layer))
touched_listed layer = seen_keys (fin.entries layer) ∙ sym (listing-same (path_set (fin.keys layer)) layer (λ p. has-touched layer p))

pub touched_present : (base : FileMap) (layer : Layer) → AllByRecursion {X = List ℕ × Bool} (λ e. is_some (file_at (over base layer) e.0) ≡ e.1) (marks (fin.entries layer))
touched_present base layer = by (fin.entries layer) (entries_found layer)
  where
    by : (es : List Entry) → AllByRecursion (λ e. fin.get layer e.0 ≡ Some e.1) es → AllByRecursion {X = List ℕ × Bool} (λ e. is_some (file_at (over base layer) e.0) ≡ e.1) (marks es)
    by [] all = tt
    by (e ∷ es) all = (ap is_some (file_told base layer e.0 e.1 all.0), by es all.1)

pub touched_elsewhere : (base : FileMap) (layer : Layer) (p : List ℕ) → has (path_set (fin.keys layer)) p ≡ false → file_at (over base layer) p ≡ file_at base p
touched_elsewhere base layer p none = file_below base layer p (absent (fin.get layer p) (sym (has-touched layer p) ∙ none))
  where
    absent : (o : Option (Option Content)) → is_some o ≡ false → o ≡ None
    absent None e = refl
    absent (Some f) e = absurd (cc)

-- ---- a path that is set

pub set_over : (base : FileMap) (layer after : Layer) (p : List ℕ) (file : Option Content) → after ≡ fin.insert layer p file → over base after ≡ put_option (over base layer) p file
set_over base layer after p None is = ap (over base) is ∙ over-remove base layer p
set_over base layer after p (Some f) is = ap (over base) is ∙ over-insert base layer p f
