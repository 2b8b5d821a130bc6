-- A directory that is carried as a whole: what no file below it loses, and that nothing is carried where it has none.
use Rattle.std.proofs.Common.{◌≡◌, ℕ, ◌+◌, ◌≤◌, ◌<◌, Bool, true, false, not, ◌&&◌, suc, List, ◌∷◌, ◌++◌, length, Option, Some, None, is_some, refl, sym, ap, ◌∙◌, arith}
use Rattle.std.specs.Prelude.{IsSome, if◌then◌else◌}
use Rattle.std.specs.List.{list_all, list_any}
use Rattle.std.specs.Option.{is_none}
use Rattle.std.specs.FinMap as fin
use Rattle.eden_ids.specs.declared.content.Content.{Content}
use Rattle.eden_ids.specs.declared.path.PathFault.{PathFault}
use Rattle.eden_ids.specs.Paths.{components, is_component, lies_below, path_fault}
use Rattle.eden_ids.specs.FileMaps.{FileMap, file_at, has_file_below, paths, same_path}
use Rattle.eden_ids.specs.Texts.{AreTexts}
use Rattle.eden_ids.proofs.FileMapLemmas.{held, same_file_map, unlisted}
use Rattle.eden_ids.proofs.TreeQuestions.{any_none, any_some}
use Rattle.eden_overlay.specs.Carried.{breaks, carried, carried_files}
use Rattle.eden_history.specs.DirRenames.{breaks_a_path}
use Rattle.eden_overlay.proofs.CarriedLemmas.{carried-below, file_at-carried}
use Rattle.eden_overlay.proofs.Joined.{names_alone, names_joined, parts_joined}
use Rattle.eden_renames.specs.Renames.{Renames, dir_moved, is_path, seen_through}
use Rattle.eden_renames.proofs.DirRenamed.{seen-dir_moved}
use Rattle.eden_renames.proofs.Settled.{no_long}
use Rattle.eden_objects.specs.Passing.{IsWithin}
use Rattle.eden_objects.specs.declared.size.Size.{Size}
use Rattle.eden_objects.proofs.Fitting.{no_fault as legal}
use Rattle.eden_overlay.specs.Layers.{Layer, or_below, over}
use Rattle.eden_overlay.proofs.Overs.{file_at-over}
use Rattle.std.proofs.lemmas.List.{length-append}

stands : (files : FileMap) (p : List ℕ) → list_any (λ q. same_path p q) (paths files) ≡ true → IsSome (file_at files p)
stands files p there = fin.contains_key-keys files p ∙ there

-- no path of the files that are seen breaks, where none below the overlay does and none of which it speaks
pub unbroken_over : (base : FileMap) (layer : Layer) (old new : List ℕ) → breaks_a_path base old new ≡ false
    → ((p : List ℕ) → IsSome (fin.get layer p) → lies_below p old ≡ true → breaks old new p ≡ false) → breaks_a_path (over base layer) old new ≡ false
unbroken_over base layer old new below said = any_none test (paths (over base layer)) (λ p there. by p (lies_below p old) refl there)
  where
    test : List ℕ → Bool
    test p = lies_below p old && breaks old new p

    seen : (p : List ℕ) (o : Option (Option Content)) → fin.get layer p ≡ o → lies_below p old ≡ true → is_some (or_below o (file_at base p)) ≡ true → test p ≡ false
    seen p (Some f) is into there = ap (λ b. b && breaks old new p) into ∙ said p (ap is_some is) into
    seen p None is into there = unlisted test (paths base) p below (held base p there)

    by : (p : List ℕ) (b : Bool) → lies_below p old ≡ b → list_any (λ q. same_path p q) (paths (over base layer)) ≡ true → test p ≡ false
    by p false e there = ap (λ b. b && breaks old new p) e
    by p true e there = seen p (fin.get layer p) refl e (sym (ap is_some (file_at-over base layer p)) ∙ stands (over base layer) p there)

-- no file is at a path below a directory that has none below it
none_at : (files : FileMap) (top p : List ℕ) → has_file_below files top ≡ false → lies_below p top ≡ true → file_at files p ≡ None
none_at files top p none into = by (file_at files p) refl
  where
    by : (o : Option Content) → file_at files p ≡ o → file_at files p ≡ None
    by None e = e
    by (Some f) e =
        let bad : true ≡ false = sym (any_some (λ q. lies_below q top) (paths files) p (held files p (ap is_some e)) into) ∙ none in absurd (cc)

-- where neither directory has a file the files stay as they are
pub nothing_carried : (files : FileMap) (old new : List ℕ) → has_file_below files old ≡ false → has_file_below files new ≡ false → carried_files files old new ≡ files
nothing_carried files old new source target =
    same_file_map (carried_files files old new) files (λ p. file_at-carried files old new p ∙ by p (lies_below p new) (lies_below p old) refl refl)
  where
    by : (p : List ℕ) (a b : Bool) → lies_below p new ≡ a → lies_below p old ≡ b
        → (if a then file_at files (carried new old p) else if b then None else file_at files p) ≡ file_at files p
    by p true b into outof = none_at files old (carried new old p) source (carried-below new old p into) ∙ sym (none_at files new p target into)
    by p false true into outof = sym (none_at files old p source outof)
    by p false false into outof = refl

-- ---- a directory with room for its files

is_unfaulted : (o : Option PathFault) → is_none o ≡ true → o ≡ None
is_unfaulted None is = refl
is_unfaulted (Some fault) is = let bad : false ≡ true = is in absurd (cc)

-- a file below a directory has a path where length and depth leave room for it
pub roomy : (dir rest : List ℕ) (size : Size) → is_path dir ≡ true → length dir + size.reach < 1024 → length (components dir) + size.depth ≤ 64 → IsWithin size rest
    → is_path (dir ++ 47 ∷ rest) ≡ true
roomy dir rest size path short flat within =
    let long : length (dir ++ 47 ∷ rest) ≡ length dir + suc (length rest) = length-append dir (47 ∷ rest) in
    let deep : length (components (dir ++ 47 ∷ rest)) ≡ length (components dir) + length (components rest) =
    ap length (parts_joined dir rest) ∙ length-append (components dir) (components rest) in
    let names : list_all is_component (components (dir ++ 47 ∷ rest)) ≡ true =
    names_joined dir rest ∙ (λ i. names_alone dir (is_unfaulted (path_fault dir) path) i && within.1 i) in
    ap is_none
    (legal (dir ++ 47 ∷ rest) (omega (arith, long)) (omega (arith, long, short, within.0)) names (omega (arith, deep, flat, within.2)))

-- what is seen beneath after one more directory was renamed
pub moved_beneath : (files : FileMap) (renames after : Renames) (old new : List ℕ) → AreTexts files → after ≡ dir_moved renames old new
    → seen_through files after ≡ carried_files (seen_through files renames) old new
moved_beneath files renames after old new texts is =
    ap (seen_through files) is
    ∙ seen-dir_moved files renames old new (λ p file at. (texts p file at).0.path)

-- and so a search for what has no place decides it
pub unplaced : (files : FileMap) (old new : List ℕ) → list_any (λ p. lies_below p old && not (is_path (carried old new p))) (paths files) ≡ breaks_a_path files old new
unplaced files old new = λ i. list_any (λ p. lies_below p old && twice (path_fault (carried old new p)) i) (paths files)
  where
    twice : (o : Option PathFault) → not (is_none o) ≡ is_some o
    twice None = refl
    twice (Some fault) = refl

-- what is longer than a path is no path
pub no_path_so_long : (bytes : List ℕ) → 1024 < length bytes → false ≡ is_path bytes
no_path_so_long bytes long = by (is_none (path_fault bytes)) refl
  where
    by : (b : Bool) → is_none (path_fault bytes) ≡ b → false ≡ b
    by false is = refl
    by true is = absurd (no_long bytes (is_unfaulted (path_fault bytes) is) long)
