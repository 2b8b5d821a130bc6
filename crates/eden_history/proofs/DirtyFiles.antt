-- The files of a working copy that its root does not hold.
use Rattle.std.proofs.Common.{◌≡◌, ℕ, Bool, true, false, cond, not, ◌&&◌, List, [], ◌∷◌, length, Option, Some, None, is_some, refl, sym, ap, subst, ◌∙◌, arith}
use Rattle.std.specs.List.{list_any}
use Rattle.std.specs.List.Sorted.{IsStrictlySortedBy}
use Rattle.std.specs.Prelude.{filter}
use Rattle.std.specs.FinMap as fin
use Rattle.eden_ids.specs.declared.content.Content.{Content}
use Rattle.eden_ids.specs.Paths.{clashes}
use Rattle.eden_ids.specs.FileMaps.{FileMap, clashes_any, file_at, paths, has, listing, differ, path_set, same_path}
use Rattle.eden_ids.proofs.ByteOrder.{fin_keys_rise, order}
use Rattle.eden_ids.proofs.FileMapLemmas.{has-differ, has-listing, has-path_set}
use Rattle.eden_ids.proofs.Sifted.{listing_of}
use Rattle.eden_ids.proofs.TreeMaps.{listing-same}
use Rattle.eden_history.specs.Checkouts.{is_clean, clashes_dirty}
use Rattle.eden_history.specs.DirtyFiles.{dirty_files}
use Rattle.eden_history.proofs.RenameLaws.{absent}
use Rattle.std.proofs.lemmas.Bool.{and_parts, false_from_ne_true}
use Rattle.eden_ids.proofs.TreeQuestions.{any_some, any_witness}

pub file_at-dirty : (work root : FileMap) (p : List ℕ) → file_at (dirty_files work root) p ≡ cond (not (is_clean work root p)) (file_at work p) None
file_at-dirty work root p =
    fin.get-retain_keys work (λ q. not (is_clean work root q)) p
    (λ x e. ap (λ q. not (is_clean work root q)) (sym (fin.slice_cmp-IsAntisymmetric fin.nat_cmp-IsAntisymmetric p x e)))

pub is_dirty_file : (work root : FileMap) (p : List ℕ) → is_some (file_at (dirty_files work root) p) ≡ (is_some (file_at work p) && not (is_clean work root p))
is_dirty_file work root p = ap is_some (file_at-dirty work root p) ∙ turned (not (is_clean work root p)) (file_at work p)
  where
    turned : (b : Bool) (f : Option Content) → is_some (cond b f None) ≡ (is_some f && b)
    turned true None = refl
    turned true (Some f) = refl
    turned false None = refl
    turned false (Some f) = refl

-- the paths of the dirty files are those at which the map of them has one
listed_is : (work root : FileMap) (ps : List (List ℕ)) (p : List ℕ) → ps ≡ paths (dirty_files work root)
    → is_some (file_at (dirty_files work root) p) ≡ list_any (λ q. same_path p q) ps
listed_is work root ps p is = fin.contains_key-keys (dirty_files work root) p ∙ ap (list_any (λ q. same_path p q)) (sym is)

-- so at one of them the working copy's file is dirty, and at any other path none is
pub listed_is_there : (work root : FileMap) (ps : List (List ℕ)) (p : List ℕ) → ps ≡ paths (dirty_files work root) → list_any (λ q. same_path p q) ps ≡ true
    → file_at (dirty_files work root) p ≡ file_at work p
listed_is_there work root ps p is listed =
    by (is_clean work root p) (file_at work p) (file_at-dirty work root p) (listed_is work root ps p is ∙ listed)
  where
    by : (clean : Bool) (f : Option Content) → file_at (dirty_files work root) p ≡ cond (not clean) f None → is_some (file_at (dirty_files work root) p) ≡ true
        → file_at (dirty_files work root) p ≡ f
    by true f e some = absurd (let bad : false ≡ true = sym (ap is_some e) ∙ some in cc)
    by false f e some = e

pub unlisted_is_absent : (work root : FileMap) (ps : List (List ℕ)) (p : List ℕ) → ps ≡ paths (dirty_files work root) → list_any (λ q. same_path p q) ps ≡ false
    → file_at (dirty_files work root) p ≡ None
unlisted_is_absent work root ps p is unlisted = absent (file_at (dirty_files work root) p) (listed_is work root ps p is ∙ unlisted)

-- ---- as a list

-- the dirty paths that have a file
pub dirty_listed : (work root : FileMap) → filter (λ p. is_some (file_at work p)) (listing (differ work root)) ≡ paths (dirty_files work root)
dirty_listed work root =
    sym (listing_of (path_set (paths (dirty_files work root))) (differ work root) (λ p. is_some (file_at work p)) (λ p. members p ∙ is_dirty_file work root p ∙ ap (λ b. is_some (file_at work p) && b) (sym (has-differ work root p))))
    ∙ listing-same (path_set (paths (dirty_files work root))) (dirty_files work root) members
  where
    members : (p : List ℕ) → has (path_set (paths (dirty_files work root))) p ≡ is_some (file_at (dirty_files work root) p)
    members p = has-path_set (paths (dirty_files work root)) p ∙ sym (fin.contains_key-keys (dirty_files work root) p)

-- a path is clean unless it is one of those on which working copy and root differ
pub clean_unless_listed : (work root : FileMap) (ps : List (List ℕ)) (p : List ℕ) → ps ≡ listing (differ work root) → is_clean work root p ≡ not (list_any (λ q. same_path p q) ps)
clean_unless_listed work root ps p is =
    twice (is_clean work root p)
    ∙ ap not (sym (has-differ work root p) ∙ has-listing (differ work root) p ∙ ap (list_any (λ q. same_path p q)) (sym is))
  where
    twice : (b : Bool) → b ≡ not (not b)
    twice true = refl
    twice false = refl

-- and these are in byte order
pub changed_rise : (work root : FileMap) (ps : List (List ℕ)) → ps ≡ listing (differ work root) → IsStrictlySortedBy order ps
changed_rise work root ps is = subst (IsStrictlySortedBy order) (sym is) (fin_keys_rise (differ work root))

-- ---- clashes

no_length : (ps : List (List ℕ)) → length ps ≡ 0 → ps ≡ []
no_length [] none = refl
no_length (p ∷ ps) none = absurd (omega arith)

by_both : (a b : Bool) → (a ≡ true → b ≡ true) → (b ≡ true → a ≡ true) → a ≡ b
by_both true b f g = sym (f refl)
by_both false true f g = g refl
by_both false false f g = refl

-- to clash with a dirty path that has a file is to clash with a dirty file
pub clashes-dirty_files : (work root : FileMap) (p : List ℕ) → clashes_dirty work root p ≡ clashes_any (dirty_files work root) p
clashes-dirty_files work root p = by_both _ _ there back
  where
    there : clashes_dirty work root p ≡ true → clashes_any (dirty_files work root) p ≡ true
    there e =
        let found = any_witness (λ q. clashes p q && not (is_clean work root q)) (paths work) e in
        let parts = and_parts (clashes p found.0) (not (is_clean work root found.0)) found.2 in
        let here : is_some (file_at work found.0) ≡ true = fin.contains_key-keys work found.0 ∙ found.1 in
        any_some (λ q. clashes p q) (paths (dirty_files work root)) found.0
        (sym (fin.contains_key-keys (dirty_files work root) found.0) ∙ is_dirty_file work root found.0
        ∙ ap (λ b. b && not (is_clean work root found.0)) here ∙ parts.1)
        parts.0

    back : clashes_any (dirty_files work root) p ≡ true → clashes_dirty work root p ≡ true
    back e =
        let found = any_witness (λ q. clashes p q) (paths (dirty_files work root)) e in
        let here : is_some (file_at (dirty_files work root) found.0) ≡ true = fin.contains_key-keys (dirty_files work root) found.0 ∙ found.1 in
        let parts = and_parts (is_some (file_at work found.0)) (not (is_clean work root found.0)) (sym (is_dirty_file work root found.0) ∙ here) in
        any_some (λ q. clashes p q && not (is_clean work root q)) (paths work) found.0
        (sym (fin.contains_key-keys work found.0) ∙ parts.0)
        (ap (λ b. b && not (is_clean work root found.0)) found.2 ∙ parts.1)

-- any files with the paths of the dirty ones determine it
pub dirty_clashes : (work root dirty : FileMap) (p : List ℕ) → paths dirty ≡ paths (dirty_files work root) → clashes_any dirty p ≡ clashes_dirty work root p
dirty_clashes work root dirty p is = ap (list_any (λ q. clashes p q)) is ∙ sym (clashes-dirty_files work root p)

-- where each path is clean, no path clashes with a dirty one
pub none_clashes : (work root : FileMap) (ps : List (List ℕ)) (p : List ℕ) → ps ≡ listing (differ work root) → length ps ≡ 0 → clashes_dirty work root p ≡ false
none_clashes work root ps p is none = false_from_ne_true (clashes_dirty work root p) (λ e.
    let found = any_witness (λ q. clashes p q && not (is_clean work root q)) (paths work) e in
    let dirty = (and_parts (clashes p found.0) (not (is_clean work root found.0)) found.2).1 in
    let bad : true ≡ false = sym dirty ∙ ap not (clean_unless_listed work root ps found.0 is ∙ ap (λ qs. not (list_any (λ q. same_path found.0 q) qs)) (no_length ps none)) in cc)

-- the paths of the dirty files are in byte order
pub dirty_rise : (work root : FileMap) (ps : List (List ℕ)) → ps ≡ paths (dirty_files work root) → IsStrictlySortedBy order ps
dirty_rise work root ps is = subst (IsStrictlySortedBy order) (sym is) (fin_keys_rise (dirty_files work root))
