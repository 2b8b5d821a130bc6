-- What is listed of one directory is in byte order, and is the whole list if nothing is said of a directory below it.
use Rattle.std.proofs.Common.{◌≡◌, ℕ, Bool, true, false, cond, T, ◌&&◌, ◌||◌, List, [], ◌∷◌, map, length, Some, None, refl, sym, ap, subst, ◌∙◌, arith}
use Rattle.std.specs.Prelude.{filter, ◌==◌}
use Rattle.std.specs.declared.cmp.Ordering.TheVariants.{Less}
use Rattle.std.specs.Ordering.{is_lt, nat_cmp}
use Rattle.std.specs.Cmp.Lexicographic.{slice_cmp}
use Rattle.std.specs.List.{AllByRecursion, list_any}
use Rattle.std.specs.List.Sorted.{IsStrictlySortedBy}
use Rattle.std.specs.FinMap as fin
use Rattle.std.specs.FinMap.{is_sorted}
use Rattle.std.specs.FinMap.Entries.{below_all}
use Rattle.std.proofs.lemmas.List.Kept.{IsStrictlySortedBy-filter}
use Rattle.eden_globs.specs.Filters.{Patterns, admits}
use Rattle.eden_ids.specs.Paths.{lies_below}
use Rattle.eden_ids.specs.FileMaps.{FileMap, PathSet, paths}
use Rattle.eden_ids.specs.Texts.{AreTexts}
use Rattle.eden_ids.proofs.ByteOrder.{both, fin_keys_rise, order}
use Rattle.eden_ids.proofs.Sifted.{keys-sifted, listing_of, sifted}
use Rattle.eden_objects.specs.Passing.{is_shown, told}
use Rattle.eden_renames.specs.Renames.{Entry, Renames, at_paths, seen_through, source_dir}
use Rattle.eden_renames.specs.internal.Listed.{is_listed, is_pathless, list_own, shown_by}
use Rattle.eden_renames.specs.internal.Regions.{is_apart}
use Rattle.eden_renames.proofs.Listed.{below_known}
use Rattle.eden_renames.proofs.Shifting.{same_order_there}
use Rattle.eden_renames.proofs.Unsettling.{or-none}

-- ---- moved below another directory, paths keep their order

abbrev told_below : List ℕ → List ℕ → List (List ℕ) → List (List ℕ)
told_below source top ps = map (told source top) (filter (λ p. lies_below p source) ps)

told_after : (source top p : List ℕ) (ps : List (List ℕ)) → lies_below p source ≡ true → AllByRecursion (λ q. order p q ≡ Less) ps
    → AllByRecursion (λ q. order (told source top p) q ≡ Less) (told_below source top ps)
told_after source top p [] below all = tt
told_after source top p (q ∷ ps) below all = by (lies_below q source) refl (told_after source top p ps below all.1)
  where
    by : (b : Bool) → lies_below q source ≡ b → AllByRecursion (λ q. order (told source top p) q ≡ Less) (told_below source top ps)
        → AllByRecursion (λ q. order (told source top p) q ≡ Less) (map (told source top) (cond b (q ∷ filter (λ p. lies_below p source) ps) (filter (λ p. lies_below p source) ps)))
    by true other rest = (same_order_there source top p q below other ∙ all.0, rest)
    by false other rest = rest

told_more : (source top p : List ℕ) (ps : List (List ℕ)) (b : Bool) → lies_below p source ≡ b → AllByRecursion (λ q. order p q ≡ Less) ps
    → IsStrictlySortedBy order (told_below source top ps)
    → IsStrictlySortedBy order (map (told source top) (cond b (p ∷ filter (λ p. lies_below p source) ps) (filter (λ p. lies_below p source) ps)))
unfolding IsStrictlySortedBy
told_more source top p ps true below all rest = (told_after source top p ps below all, rest)
told_more source top p ps false below all rest = rest

told_rises : (source top : List ℕ) (ps : List (List ℕ)) → IsStrictlySortedBy order ps → IsStrictlySortedBy order (told_below source top ps)
unfolding IsStrictlySortedBy
told_rises source top [] all = tt
told_rises source top (p ∷ ps) all = told_more source top p ps (lies_below p source) refl all.0 (told_rises source top ps all.1)

-- so what is seen by a directory rises
pub shown_rises : (files : FileMap) (renames : Renames) (patterns : Patterns) (e : Entry) → IsStrictlySortedBy order (shown_by files renames patterns e)
unfolding IsStrictlySortedBy
shown_rises files renames patterns (top, None) = tt
shown_rises files renames patterns (top, Some source) =
    IsStrictlySortedBy-filter order (is_shown (is_apart renames (length top) is_pathless) patterns) (told_below source top (paths files)) (told_rises source top (paths files) (fin_keys_rise files))

-- ---- a list in byte order is determined by what it lists

abbrev marks : List (List ℕ) → List (List ℕ × Unit {0})
marks ps = map (λ p. (p, tt {0})) ps

unmarked : (ps : List (List ℕ)) → map (λ (e : List ℕ × Unit {0}). e.0) (marks ps) ≡ ps
unmarked [] = refl
unmarked (p ∷ ps) = ap (λ qs. p ∷ qs) (unmarked ps)

marks_after : (k : List ℕ) (ps : List (List ℕ)) → AllByRecursion (λ q. order k q ≡ Less) ps → T (below_all order k (marks ps))
marks_after k [] all = tt
marks_after k (p ∷ ps) all = both _ _ (subst (λ r. T (is_lt r)) (sym all.0) tt) (marks_after k ps all.1)

marks_rise : (ps : List (List ℕ)) → IsStrictlySortedBy order ps → T (is_sorted order (marks ps))
unfolding IsStrictlySortedBy
marks_rise [] all = tt
marks_rise (p ∷ ps) all = both _ _ (marks_after p ps all.0) (marks_rise ps all.1)

pub told_by_members : {X : Type 0} (ps : List (List ℕ)) (m : fin.FinMap (slice_cmp nat_cmp) X) (test : List ℕ → Bool) → IsStrictlySortedBy order ps
    → ((p : List ℕ) → is_listed ps p ≡ (test p && fin.contains_key m p)) → ps ≡ filter test (fin.keys m)
told_by_members ps m test rises is = sym keys ∙ listing_of set m test (λ p. fin.contains_key-keys set p ∙ ap (λ qs. is_listed qs p) keys ∙ is p)
  where
    set : PathSet
    set = fin.from_sorted (marks ps)

    keys : fin.keys set ≡ ps
    keys = ap (map (λ e. e.0)) (fin.entries-from_sorted (slice_cmp nat_cmp) (marks ps) (marks_rise ps rises)) ∙ unmarked ps

-- ---- one directory alone

-- where nothing is said of a directory below it, what is seen by a directory is all that is seen there
pub own_alone : (files : FileMap) (renames : Renames) (patterns : Patterns) (top : List ℕ) → AreTexts files → filter (λ e. lies_below e.0 top) (fin.entries renames) ≡ []
    → list_own files renames patterns top ≡ filter (admits patterns) (filter (λ p. lies_below p top) (paths (at_paths (seen_through files renames))))
own_alone files renames patterns top are alone =
    let seen = at_paths (seen_through files renames) in
    let own = list_own files renames patterns top in
    told_by_members own (sifted seen (λ p. lies_below p top)) (admits patterns) (shown_rises files renames patterns (top, source_dir renames top))
    (λ p. sym (ap (λ es. is_listed own p || list_any (λ e. is_listed (list_own files renames patterns e.0) p) es) alone ∙ or-none (is_listed own p)) ∙ below_known files renames patterns top p are)
    ∙ ap (filter (admits patterns)) (keys-sifted seen (λ p. lies_below p top))

pub none_there : (n : ℕ) → (n == 0) ≡ true → n ≡ 0
none_there n is = grind (arith, is)
