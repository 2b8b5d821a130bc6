-- Maps whose paths are paths and whose files are within the limit, after each change of them.
use Rattle.std.proofs.Common.{◌≡◌, ℕ, Bool, true, false, cond, not, List, Option, Some, None, is_some, refl, sym, subst, ◌∙◌}
use Rattle.std.proofs.lemmas.Option.{same_Some}
use Rattle.std.specs.List.{AllByRecursion}
use Rattle.std.specs.FinMap as fin
use Rattle.eden_ids.specs.declared.content.Content.{Content}
use Rattle.eden_ids.specs.FileMaps.{FileMap, differ, file_at, listing, no_files, paths, same_file, same_path}
use Rattle.eden_ids.specs.Texts.{AreTexts, IsContentText, IsPathText}
use Rattle.eden_ids.proofs.FileMapLemmas.{file_at-insert, file_at-none, file_at-remove, has-differ, same_path-is}
use Rattle.eden_ids.proofs.Members.{all_listed, all_members}

no_file : (file : Content) → ◌≡◌ {A = Option Content} None (Some file) → ⊥
no_file file is = cc

pub texts_none : AreTexts no_files
texts_none path file at = absurd (no_file file (sym (file_at-none path) ∙ at))

pub texts_insert : (files : FileMap) (k : List ℕ) (new : Content) → AreTexts files → IsPathText k → IsContentText new → AreTexts (fin.insert files k new)
texts_insert files k new texts key content p file at = by (same_path p k) refl (sym (file_at-insert files k new p) ∙ at)
  where
    by : (b : Bool) → same_path p k ≡ b → cond b (Some new) (file_at files p) ≡ Some file → IsPathText p × IsContentText file
    by true e is = (subst IsPathText (sym (same_path-is p k e)) key, subst IsContentText (same_Some new file is) content)
    by false e is = texts p file is

pub texts_remove : (files : FileMap) (k : List ℕ) → AreTexts files → AreTexts (fin.remove files k)
texts_remove files k texts p file at = by (same_path p k) (sym (file_at-remove files k p) ∙ at)
  where
    by : (b : Bool) → cond b None (file_at files p) ≡ Some file → IsPathText p × IsContentText file
    by true is = absurd (no_file file is)
    by false is = texts p file is

-- the paths that have files are paths
pub paths_texts : (files : FileMap) → AreTexts files → AllByRecursion IsPathText (paths files)
paths_texts files texts = all_listed IsPathText (paths files) (λ p listed. by p (file_at files p) refl (fin.contains_key-keys files p ∙ listed))
  where
    by : (p : List ℕ) (o : Option Content) → file_at files p ≡ o → is_some o ≡ true → IsPathText p
    by p None e some = absurd (cc)
    by p (Some file) e some = (texts p file e).0

-- and so are those on which two maps differ
pub differ_texts : (f g : FileMap) → AreTexts f → AreTexts g → AllByRecursion IsPathText (listing (differ f g))
differ_texts f g one other = all_members IsPathText (differ f g) (λ p is. by p (file_at f p) (file_at g p) refl refl (sym (has-differ f g p) ∙ is))
  where
    by : (p : List ℕ) (a b : Option Content) → file_at f p ≡ a → file_at g p ≡ b → not (same_file a b) ≡ true → IsPathText p
    by p (Some file) b e d is = (one p file e).0
    by p None (Some file) e d is = (other p file d).0
    by p None None e d is = absurd (cc)
