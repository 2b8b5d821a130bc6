-- A snapshot shows the files that a mount holds.
use Rattle.std.proofs.Common.{◌≡◌, ℕ, Bool, List, [], ◌∷◌, Option, None, Some, true, false, cond, refl, sym, ap, ◌∙◌}
use Rattle.std.specs.Prelude.{filter}
use Rattle.std.specs.Option.{is_none}
use Rattle.std.specs.FinMap as fin
use Rattle.eden_ids.specs.declared.id.Id.{Id}
use Rattle.eden_ids.specs.FileMaps.{FileMap, file_at}
use Rattle.eden_ids.specs.Paths.{IsPath}
use Rattle.eden_ids.specs.Texts.{AreTexts}
use Rattle.eden_objects.specs.Objects.{Held}
use Rattle.eden_objects.specs.Files.{commit_files}
use Rattle.eden_renames.specs.Renames.{Renames, at_paths, seen_through}
use Rattle.eden_workcopy.specs.declared.work.WorkCopy.{WorkCopy}
use Rattle.eden_overlay.specs.Layers.{Layer, or_below, over}
use Rattle.eden_workcopy.specs.Meanings.{base_of, means}
use Rattle.eden_renames.proofs.Listed.{all_at_paths, file_at-at_paths}
use Rattle.eden_overlay.proofs.Overs.{file_at-over, file_told}
use Rattle.eden_accumulate.specs.Mounts.{State}
use Rattle.eden_accumulate.specs.internal.Describing.{AreWithin}
use Rattle.eden_accumulate.proofs.Standing.{IsPresent}

-- of two tests either may come first
pub filters_turned : (s t : List ℕ → Bool) (ps : List (List ℕ)) → filter s (filter t ps) ≡ filter t (filter s ps)
filters_turned s t [] = refl
filters_turned s t (p ∷ ps) = by (s p) (t p) refl refl (filters_turned s t ps)
  where
    last : List (List ℕ)
    last = filter s (filter t ps)

    first : List (List ℕ)
    first = filter t (filter s ps)

    by : (a b : Bool) → s p ≡ a → t p ≡ b → last ≡ first → filter s (cond b (p ∷ filter t ps) (filter t ps)) ≡ filter t (cond a (p ∷ filter s ps) (filter s ps))
    by true true sa tb more =
        ap (λ c. cond c (p ∷ last) last) sa ∙ ap (λ (qs : List (List ℕ)). p ∷ qs) more ∙ sym (ap (λ c. cond c (p ∷ first) first) tb)
    by true false sa tb more = more ∙ sym (ap (λ c. cond c (p ∷ first) first) tb)
    by false true sa tb more = ap (λ c. cond c (p ∷ last) last) sa ∙ more
    by false false sa tb more = more

-- a snapshot of a working copy shows its files, where the files that its overlay lies over keep the limits
pub shows : (held : List Held) (work : WorkCopy) (root : Id) (renames : Renames) (overlay : Layer) (files : FileMap) → root ≡ work.root → renames ≡ work.renames
    → overlay ≡ work.overlay → means held work ≡ files → AreTexts (base_of held work) → over (at_paths (seen_through (commit_files held root) renames)) overlay ≡ files
shows held work root renames overlay files is-root is-renames is-overlay is-files texts =
    (λ i. over (at_paths (seen_through (commit_files held (is-root i)) (is-renames i))) (is-overlay i))
    ∙ ap (λ (m : FileMap). over m work.overlay) (all_at_paths (base_of held work) texts)
    ∙ is-files

-- the files of an overlay are among those that are seen with it
pub within : (base : FileMap) (layer : Layer) → AreTexts (over base layer) → AreWithin layer
within base layer texts path file at = (texts path file (file_told base layer path (Some file) at)).1.few

-- at a path, leaving out what is at no path changes nothing
pub at_path : (base : FileMap) (layer : Layer) (path : List ℕ) → IsPath path → file_at (over base layer) path ≡ file_at (over (at_paths base) layer) path
at_path base layer path is =
    file_at-over base layer path
    ∙ ap (or_below (fin.get layer path)) (sym (file_at-at_paths base path ∙ ap (λ o. cond (is_none o) (file_at base path) None) is))
    ∙ sym (file_at-over (at_paths base) layer path)

-- the journal's root is the working copy's
pub root_is : (mount : State) → IsPresent mount → mount.log.root ≡ mount.work.root
root_is mount h = h.1.log.root ∙ sym h.1.root
