-- What a working copy means, as its calls have it.
use Rattle.std.proofs.Common.{◌≡◌, ℕ, Bool, true, false, cond, not, ◌&&◌, ◌||◌, List, [], ◌∷◌, Option, Some, None, is_some, refl, sym, ap, subst, ◌∙◌}
use Rattle.std.specs.Prelude.{IsSome}
use Rattle.std.specs.Option.{option_or}
use Rattle.std.specs.List.{list_any, AllByRecursion}
use Rattle.std.specs.FinMap as fin
use Rattle.eden_ids.specs.declared.id.Id.{Id}
use Rattle.eden_ids.specs.declared.content.Content.{Content}
use Rattle.eden_ids.specs.Paths.{lies_below}
use Rattle.eden_ids.specs.FileMaps.{FileMap, file_at, paths, has_file_below, same_path, IsFileMap}
use Rattle.eden_ids.specs.Texts.{AreTexts}
use Rattle.std.specs.Ordering.{nat_cmp}
use Rattle.std.specs.Cmp.Lexicographic.{slice_cmp}
use Rattle.eden_ids.proofs.FileMapLemmas.{same_path-is}
use Rattle.eden_ids.proofs.TreeMaps.{entries_found}
use Rattle.eden_objects.specs.Objects.{Held}
use Rattle.eden_objects.specs.Commits.{Row, commit_rows, commit_map, map_of_rows}
use Rattle.eden_objects.specs.Closed.{IsClosed}
use Rattle.eden_objects.specs.Small.{AreSmall}
use Rattle.eden_objects.specs.Files.{files_of, commit_files}
use Rattle.eden_objects.proofs.CommitLaws.{file_maps}
use Rattle.eden_objects.proofs.CommitTexts.{commits_texts}
use Rattle.eden_history.specs.declared.change.ChangeFault.{ChangeFault}
use Rattle.eden_history.specs.declared.change.ChangeFault.TheVariants.{NotADirectory, IsADirectory}
use Rattle.eden_history.specs.Renames.{moved, renamed}
use Rattle.eden_ids.specs.Sameness.{same_bytes}
use Rattle.eden_renames.specs.Renames.{Renames, seen_through}
use Rattle.eden_renames.proofs.Seen.{seen-unmoved}
use Rattle.eden_workcopy.specs.declared.work.WorkCopy.{WorkCopy}
use Rattle.eden_workcopy.specs.Meanings.{base_of, means, FitsIn}
use Rattle.eden_overlay.specs.Layers.{Layer, Entry, over}
use Rattle.eden_overlay.proofs.Overs.{over-nothing, over-insert, over-remove, over-move, here_below, left_below}
use Rattle.std.proofs.lemmas.Bool.{or_parts}

some_rows : (held : List Held) (o : Option (List Row)) → is_some o ≡ true → map_of_rows held o ≡ Some (files_of (map_of_rows held o))
some_rows held None e = absurd (cc)
some_rows held (Some rows) e = refl

-- where no directory was renamed and nothing was changed the files are the commit's
plain : (files : FileMap) (renames : Renames) (layer : Layer) → renames ≡ fin.empty → layer ≡ fin.empty → over (seen_through files renames) layer ≡ files
plain files renames layer unmoved is = ap (over (seen_through files renames)) is ∙ over-nothing (seen_through files renames) ∙ ap (seen_through files) unmoved ∙ seen-unmoved files

pub new_files : (held : List Held) (root : Id) (renames : Renames) (layer : Layer) → is_some (commit_rows held root) ≡ true → renames ≡ fin.empty → layer ≡ fin.empty
    → commit_map held root ≡ Some (over (seen_through (commit_files held root) renames) layer)
new_files held root renames layer e unmoved is =
    some_rows held (commit_rows held root) e ∙ ap Some (sym (plain (commit_files held root) renames layer unmoved is))

pub new_fits : (held : List Held) (root : Id) (renames : Renames) (layer : Layer) → IsClosed held → AreSmall held → is_some (commit_rows held root) ≡ true → renames ≡ fin.empty → layer ≡ fin.empty
    → FitsIn held (record { root = root; renames = renames; overlay = layer })
new_fits held root renames layer closed small e unmoved is =
    let base = seen_through (commit_files held root) renames in
    let files = over base layer in
    let map = new_files held root renames layer e unmoved is in
    let texts = commits_texts held closed small root files map in record {
      root = ap is_some map;
      files = file_maps held closed root files map;
      texts = texts;
      below = subst AreTexts (ap (over base) is ∙ over-nothing base) texts;
    }

none_of : (held : List Held) (o : Option (List Row)) → is_some o ≡ false → map_of_rows held o ≡ None
none_of held None e = refl
none_of held (Some rows) e = absurd (cc)

-- ---- files below a path

some_entry : (p : List ℕ) (es : List Entry) → list_any (λ e. is_some e.1 && lies_below e.0 p) es ≡ true → (layer : Layer) → AllByRecursion (λ e. fin.get layer e.0 ≡ Some e.1) es
    → (q : List ℕ) × (f : Content) × (fin.get layer q ≡ Some (Some f)) × (lies_below q p ≡ true)
some_entry p [] e layer all = absurd (cc)
some_entry p (x ∷ es) e layer all =
    elim (is_some x.1 && lies_below x.0 p) as (λ b. (is_some x.1 && lies_below x.0 p) ≡ b → (b || list_any (λ e. is_some e.1 && lies_below e.0 p) es) ≡ true
    → (q : List ℕ) × (f : Content) × (fin.get layer q ≡ Some (Some f)) × (lies_below q p ≡ true)) [
      | true ↦ λ here _. let it = found x.1 all.0 here in (x.0, it.0, it.1, it.2)
      | false ↦ λ _ more. some_entry p es more layer all.1
    ] refl e
  where
    found : (o : Option Content) → fin.get layer x.0 ≡ Some o → (is_some o && lies_below x.0 p) ≡ true → (f : Content) × (fin.get layer x.0 ≡ Some (Some f)) × (lies_below x.0 p ≡ true)
    found None is h = absurd (cc)
    found (Some f) is h = (f, is, h)

pub present_below : (base : FileMap) (layer : Layer) (p : List ℕ) → list_any (λ e. is_some e.1 && lies_below e.0 p) (fin.entries layer) ≡ true → has_file_below (over base layer) p ≡ true
present_below base layer p e =
    let it = some_entry p (fin.entries layer) e layer (entries_found layer) in here_below base layer p it.0 it.1 it.2 it.3

no_entry : (q p : List ℕ) (f : Content) (es : List Entry) → fin.find (slice_cmp nat_cmp) q es ≡ Some (Some f) → list_any (λ e. is_some e.1 && lies_below e.0 p) es ≡ false → lies_below q p ≡ false
no_entry q p f [] is none = absurd (cc)
no_entry q p f (x ∷ es) is none =
    elim (same_path q x.0) as (λ b. same_path q x.0 ≡ b → cond b (Some x.1) (fin.find (slice_cmp nat_cmp) q es) ≡ Some (Some f) → lies_below q p ≡ false) [
      | true ↦ λ s it.
          let value : x.1 ≡ Some f = cc in
          ap (λ r. lies_below r p) (same_path-is q x.0 s) ∙ sym (ap (λ o. is_some o && lies_below x.0 p) value) ∙ (or_parts _ _ none).0
      | false ↦ λ s it. no_entry q p f es it (or_parts _ _ none).1
    ] refl is

pub unspoken_below : (base : FileMap) (layer : Layer) (p : List ℕ) → list_any (λ e. is_some e.1 && lies_below e.0 p) (fin.entries layer) ≡ false
    → list_any (λ q. lies_below q p && not (is_some (fin.get layer q))) (paths base) ≡ has_file_below (over base layer) p
unspoken_below base layer p none =
    sym (left_below base layer p (λ q f at. no_entry q p f (fin.entries layer) (sym (fin.get-entries layer q) ∙ at) none))

-- ---- changes

pub written : (base : FileMap) (layer after : Layer) (k path : List ℕ) (f g : Content) → after ≡ fin.insert layer k (Some f) → k ≡ path → f ≡ g → over base after ≡ fin.insert (over base layer) path g
written base layer after k path f g is key file =
    ap (over base) is ∙ over-insert base layer k f ∙ ap (λ q. fin.insert (over base layer) q f) key ∙ ap (fin.insert (over base layer) path) file

pub removed : (base : FileMap) (layer after : Layer) (k path : List ℕ) → after ≡ fin.insert layer k None → k ≡ path → over base after ≡ fin.remove (over base layer) path
removed base layer after k path is key = ap (over base) is ∙ over-remove base layer k ∙ ap (fin.remove (over base layer)) key

pub shifted : (base : FileMap) (layer after : Layer) (from to old new : List ℕ) (f : Content) → after ≡ fin.insert (fin.insert layer from None) to (Some f) → from ≡ old → to ≡ new
    → Some f ≡ file_at (over base layer) old → same_bytes old new ≡ false → over base after ≡ renamed (over base layer) old new
shifted base layer after from to old new f is source target file other =
    ap (over base) is
    ∙ over-move base layer from to f
    ∙ ap (λ q. fin.insert (fin.remove (over base layer) q) to f) source
    ∙ ap (λ q. fin.insert (fin.remove (over base layer) old) q f) target
    ∙ ap (moved (over base layer) old new) file
    ∙ sym (ap (λ b. cond b (over base layer) (moved (over base layer) old new (file_at (over base layer) old))) other)

pub place_free : (above below : Bool) (later : Option ChangeFault) → option_or (cond above (Some NotADirectory) (cond below (Some IsADirectory) None)) later ≡ None → (above ≡ false) × (below ≡ false)
place_free true below later e = absurd (cc)
place_free false true later e = absurd (cc)
place_free false false later e = (refl, refl)

-- ---- another store

pub means_elsewhere : (held other : List Held) (work : WorkCopy) → commit_map held work.root ≡ commit_map other work.root → means held work ≡ means other work
means_elsewhere held other work is = ap (λ o. over (seen_through (files_of o) work.renames) work.overlay) is

base_elsewhere : (held other : List Held) (work : WorkCopy) → commit_map held work.root ≡ commit_map other work.root → base_of held work ≡ base_of other work
base_elsewhere held other work is = ap (λ o. seen_through (files_of o) work.renames) is

pub fits_elsewhere : (held other : List Held) (work : WorkCopy) → commit_map held work.root ≡ commit_map other work.root → FitsIn held work → FitsIn other work
fits_elsewhere held other work is fits = record {
  root = subst (λ (o : Option FileMap). IsSome o) is fits.root;
  files = subst IsFileMap (means_elsewhere held other work is) fits.files;
  texts = subst AreTexts (means_elsewhere held other work is) fits.texts;
  below = subst AreTexts (base_elsewhere held other work is) fits.below;
}
