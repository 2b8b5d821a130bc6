-- A path of which the overlay says nothing any more.
use Rattle.std.proofs.Common.{◌≡◌, ℕ, Bool, true, false, cond, ◌||◌, List, [], ◌∷◌, map, Option, Some, None, is_some, refl, sym, ap, ◌∙◌, Bor}
use Rattle.std.specs.Prelude.{if◌then◌else◌}
use Rattle.std.specs.Option.{option_or}
use Rattle.std.specs.List.{list_any}
use Rattle.std.proofs.lemmas.Bool.{or_parts}
use Rattle.eden_ids.specs.Paths.{lies_below}
use Rattle.eden_renames.specs.Renames.{Entry, nearest}
use Rattle.eden_renames.specs.internal.Told.{entry_told}
use Rattle.std.specs.Cmp.Lexicographic.{nat_list_cmp_total}
use Rattle.std.specs.FinMap as fin
use Rattle.eden_ids.specs.declared.content.Content.{Content}
use Rattle.eden_ids.specs.FileMaps.{FileMap, IsFileMap, file_at, same_path, put_option, has_file_above, has_file_below}
use Rattle.eden_ids.specs.Texts.{AreTexts}
use Rattle.eden_ids.proofs.TextLemmas.{texts_insert, texts_remove}
use Rattle.eden_ids.proofs.FileMapLemmas.{same_path-is, same_file_map, IsFileMap-insert, IsFileMap-remove, put_option-at}
use Rattle.eden_history.specs.Renames.{place_fault}
use Rattle.eden_overlay.specs.Layers.{Layer, or_below, over}
use Rattle.eden_workcopy.specs.Reverts.{revert_fault}
use Rattle.eden_overlay.proofs.Overs.{file_at-over}
use Rattle.eden_workcopy.proofs.Works.{place_free}

-- a path that takes the file of another map
pub texts_put : (files other : FileMap) (path : List ℕ) → AreTexts files → AreTexts other → AreTexts (put_option files path (file_at other path))
texts_put files other path texts more = by (file_at other path) refl
  where
    by : (file : Option Content) → file_at other path ≡ file → AreTexts (put_option files path file)
    by None is = texts_remove files path texts
    by (Some f) is = let text = more path f is in texts_insert files path f texts text.0 text.1

pub over-forgotten : (base : FileMap) (layer after : Layer) (k : List ℕ) → after ≡ fin.remove layer k → over base after ≡ put_option (over base layer) k (file_at base k)
over-forgotten base layer after k is =
    ap (over base) is
    ∙ same_file_map _ _
    (λ p.
    file_at-over base (fin.remove layer k) p
    ∙ ap (λ o. or_below o (file_at base p)) (fin.get-remove nat_list_cmp_total layer k p)
    ∙ by p (same_path p k) refl
    ∙ sym (put_option-at (over base layer) k (file_at base k) p))
  where
    by : (p : List ℕ) (b : Bool) → same_path p k ≡ b → or_below (cond b None (fin.get layer p)) (file_at base p) ≡ cond (same_path p k) (file_at base k) (file_at (over base layer) p)
    by p true e = ap (file_at base) (same_path-is p k e) ∙ ap (λ b. cond b (file_at base k) (file_at (over base layer) p)) (sym e)
    by p false e = sym (file_at-over base layer p) ∙ ap (λ b. cond b (file_at base k) (file_at (over base layer) p)) (sym e)

pub revert_fits : (m base : FileMap) (k : List ℕ) → IsFileMap m → revert_fault m base k ≡ None → IsFileMap (put_option m k (file_at base k))
revert_fits m base k ok free = by (file_at base k) free
  where
    by : (o : Option Content) → cond (is_some o) (place_fault m k) None ≡ None → IsFileMap (put_option m k o)
    by None e = IsFileMap-remove m k ok
    by (Some f) e = let apart = place_free (has_file_above m k) (has_file_below m k) None (ap (λ o. option_or o None) e) in IsFileMap-insert m k f ok apart.0 apart.1

-- ---- whether a renamed directory is above a path

pub ungoverned : (es : List Entry) (path : List ℕ) → nearest es path ≡ None → list_any (λ top. lies_below path top) (map (λ (e : Entry). e.0) es) ≡ false
ungoverned [] path none = refl
ungoverned (e ∷ es) path none = by (nearest es path) (lies_below path e.0) refl refl none (ungoverned es path)
  where
    by : (o : Option Entry) (b : Bool) → nearest es path ≡ o → lies_below path e.0 ≡ b → option_or (nearest es path) (if lies_below path e.0 then Some e else None) ≡ None
        → (nearest es path ≡ None → list_any (λ top. lies_below path top) (map (λ (e : Entry). e.0) es) ≡ false)
        → (lies_below path e.0 || list_any (λ top. lies_below path top) (map (λ (e : Entry). e.0) es)) ≡ false
    by (Some f) b far here none rest =
        absurd (let bad : ◌≡◌ {A = Option Entry} (Some f) None = sym (ap (λ o. option_or o (if lies_below path e.0 then Some e else None)) far) ∙ none in cc)
    by None true far here none rest =
        absurd (let bad : ◌≡◌ {A = Option Entry} (Some e) None = (λ i. option_or (sym far i) (if sym here i then Some e else None)) ∙ none in cc)
    by None false far here none rest = ap (λ b. b || list_any (λ top. lies_below path top) (map (λ (e : Entry). e.0) es)) here ∙ rest far

pub governed : (es : List Entry) (path : List ℕ) (found : Entry) → nearest es path ≡ Some found → list_any (λ top. lies_below path top) (map (λ (e : Entry). e.0) es) ≡ true
governed es path found there = by (list_any (λ top. lies_below path top) (map (λ (e : Entry). e.0) es)) refl
  where
    none_near : (es : List Entry) → list_any (λ top. lies_below path top) (map (λ (e : Entry). e.0) es) ≡ false → nearest es path ≡ None
    none_near [] none = refl
    none_near (e ∷ es) none =
        let parts = or_parts (lies_below path e.0) (list_any (λ top. lies_below path top) (map (λ (e : Entry). e.0) es)) none in
        (λ i. option_or (none_near es parts.1 i) (if parts.0 i then Some e else None))

    by : (b : Bool) → list_any (λ top. lies_below path top) (map (λ (e : Entry). e.0) es) ≡ b → b ≡ true
    by true e = refl
    by false e = absurd (let bad : ◌≡◌ {A = Option Entry} None (Some found) = sym (none_near es e) ∙ there in cc)

pub none_told : (es : List Entry) (bytes path : List ℕ) (o : Option (ℕ × Bor (Option (List ℕ)))) → bytes ≡ path → nearest es bytes ≡ entry_told bytes o → is_some o ≡ false → nearest es path ≡ None
none_told es bytes path None same told none = ap (nearest es) (sym same) ∙ told
none_told es bytes path (Some found) same told none = absurd (let bad : true ≡ false = none in cc)

pub some_told : (es : List Entry) (bytes path : List ℕ) (o : Option (ℕ × Bor (Option (List ℕ)))) → bytes ≡ path → nearest es bytes ≡ entry_told bytes o → is_some o ≡ true
    → list_any (λ top. lies_below path top) (map (λ (e : Entry). e.0) es) ≡ true
some_told es bytes path None same told some = absurd (let bad : false ≡ true = some in cc)
some_told es bytes path (Some found) same told some = governed es path _ (ap (nearest es) (sym same) ∙ told)
