-- What leaves a file map with a list of the paths below a directory, and how paths are searched for in a list.
use Rattle.std.proofs.Common.{◌≡◌, ℕ, ◌+◌, Bool, true, false, cond, not, ◌&&◌, ◌||◌, List, [], ◌∷◌, ◌++◌, filter, Option, Some, None, is_some, refl, sym, ap, ◌∙◌}
use Rattle.std.proofs.Math.ListN.{get_or}
use Rattle.std.proofs.Math.Bool.{or-false}
use Rattle.std.specs.Ordering.{is_lt}
use Rattle.std.proofs.lemmas.List.Folds.{list_any-append}
use Rattle.std.proofs.lemmas.Map.Keys.{sorted_from_all_adjacent}
use Rattle.std.proofs.lemmas.Map.Views.{any-filter_same}
use Rattle.std.specs.Cmp.Lexicographic.{nat_list_cmp_total}
use Rattle.std.specs.List.{IsAllAdjacentAnswer}
use Rattle.std.specs.List.Sorted.{IsStrictlySortedBy}
use Rattle.std.specs.FinMap as fin
use Rattle.eden_ids.specs.declared.content.Content.{Content}
use Rattle.eden_ids.specs.FileMaps.{FileMap, file_at, paths, same_path}
use Rattle.eden_ids.specs.Paths.{lies_below}
use Rattle.eden_ids.proofs.ByteOrder.{is_less, order}
use Rattle.eden_ids.proofs.FileMapLemmas.{file_at-remove, same_file_map, same_order, same_path-is}
use Rattle.eden_messages.specs.Mirrors.{is_among, listed_files}
use Rattle.eden_mirror.specs.internal.Listed.{is_unlisted}

-- ---- paths in order

-- x is before y
abbrev pub before : List ℕ → List ℕ → Bool
before x y = is_lt (order x y)

-- what a look at all neighbours says
pub looked_at : (xs : List (List ℕ)) (r : Bool) → IsAllAdjacentAnswer (λ x y b. b ≡ before x y) xs r → r ≡ true → IsStrictlySortedBy order xs
looked_at xs true all e =
    sorted_from_all_adjacent nat_list_cmp_total xs [] (λ k within. is_less (order (get_or xs k []) (get_or xs (k + 1) [])) (sym (all k [] within)))
looked_at xs false all e = absurd (let bad : false ≡ true = e in cc)

-- ---- files that are taken away

among_more : (q : List ℕ) (ps : List (List ℕ)) (k : List ℕ) → is_among q (ps ++ k ∷ []) ≡ (is_among q ps || same_path q k)
among_more q ps k = list_any-append (λ p. same_path q p) ps (k ∷ []) ∙ ap (λ b. is_among q ps || b) (or-false (same_path q k))

-- the files but those at some paths
abbrev pub but : FileMap → List (List ℕ) → FileMap
but files gone = fin.retain_keys files (λ path. not (is_among path gone))

but_at : (files : FileMap) (gone : List (List ℕ)) (q : List ℕ) → file_at (but files gone) q ≡ cond (not (is_among q gone)) (file_at files q) None
but_at files gone q = fin.get-retain_keys files (λ path. not (is_among path gone)) q (λ x e. ap (λ path. not (is_among path gone)) (sym (same_order q x e)))

pub but_none : (files : FileMap) → files ≡ but files []
but_none files = same_file_map files (but files []) (λ q. sym (but_at files [] q))

pub but_more : (files : FileMap) (gone : List (List ℕ)) (k : List ℕ) → fin.remove (but files gone) k ≡ but files (gone ++ k ∷ [])
but_more files gone k =
    same_file_map (fin.remove (but files gone) k) (but files (gone ++ k ∷ []))
    (λ q. file_at-remove (but files gone) k q ∙ ap (cond (same_path q k) None) (but_at files gone q) ∙ by (is_among q gone) (same_path q k) (file_at files q)
    ∙ sym (but_at files (gone ++ k ∷ []) q ∙ ap (λ b. cond (not b) (file_at files q) None) (among_more q gone k)))
  where
    by : (a s : Bool) (file : Option Content) → cond s None (cond (not a) file None) ≡ cond (not (a || s)) file None
    by true true file = refl
    by true false file = refl
    by false true file = refl
    by false false file = refl

-- ---- what is not listed

among_filter : (test : List ℕ → Bool) (q : List ℕ) (ps : List (List ℕ)) → is_among q (filter test ps) ≡ (test q && is_among q ps)
among_filter test q ps = any-filter_same (λ p. same_path q p) test (test q) (λ p e. ap test (sym (same_path-is q p e))) ps

-- the files but those at the paths below the directory that are held and not listed
pub kept_listed : (files : FileMap) (prefix : List ℕ) (listed : List (List ℕ)) → but files (filter (is_unlisted prefix listed) (paths files)) ≡ listed_files files prefix listed
kept_listed files prefix listed =
    same_file_map (but files (filter (is_unlisted prefix listed) (paths files))) (listed_files files prefix listed)
    (λ q. but_at files (filter (is_unlisted prefix listed) (paths files)) q
    ∙ ap (λ b. cond (not b) (file_at files q) None) (among_filter (is_unlisted prefix listed) q (paths files) ∙ ap (λ b. is_unlisted prefix listed q && b) (sym (fin.contains_key-keys files q)))
    ∙ by (lies_below q prefix) (is_among q listed) (file_at files q)
    ∙ sym (fin.get-retain_keys files (λ path. not (lies_below path prefix) || is_among path listed) q (λ x e. ap (λ path. not (lies_below path prefix) || is_among path listed) (sym (same_order q x e)))))
  where
    by : (a s : Bool) (file : Option Content) → cond (not ((a && not s) && is_some file)) file None ≡ cond (not a || s) file None
    by true true file = refl
    by true false None = refl
    by true false (Some file) = refl
    by false s file = refl
