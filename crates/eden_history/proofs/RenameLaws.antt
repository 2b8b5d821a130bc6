-- A file that may be written or renamed leaves a file map.
use Rattle.std.proofs.Common.{◌≡◌, ℕ, Bool, true, false, cond, List, Option, Some, None, is_some, refl, sym, ap, ◌∙◌, if◌then◌else◌}
use Rattle.std.specs.Option.{option_or}
use Rattle.std.specs.List.{list_any}
use Rattle.std.specs.FinMap as fin
use Rattle.std.proofs.lemmas.Bool.{false_from_ne_true}
use Rattle.eden_ids.specs.declared.content.Content.{Content}
use Rattle.eden_ids.specs.Paths.{lies_below}
use Rattle.eden_ids.specs.FileMaps.{FileMap, IsFileMap, file_at, has_file_above, has_file_below, paths, same_path}
use Rattle.eden_ids.proofs.FileMapLemmas.{IsFileMap-insert, IsFileMap-remove, file_at-remove}
use Rattle.eden_history.specs.declared.change.ChangeFault.{ChangeFault}
use Rattle.eden_history.specs.declared.change.ChangeFault.TheVariants.{NotADirectory, IsADirectory}
use Rattle.eden_history.specs.Renames.{absent_fault, moved, place_fault, rename_fault, renamed, write_fault}
use Rattle.eden_ids.specs.Sameness.{same_bytes}
use Rattle.eden_ids.proofs.TreeQuestions.{any_some, any_witness}

pub first-none : (a b : Option ChangeFault) → option_or a b ≡ None → (a ≡ None) × (b ≡ None)
first-none None b e = (refl, e)
first-none (Some fault) b e = let bad : ◌≡◌ {A = Option ChangeFault} (Some fault) None = e in cc

pub absent : {A : Type 0} (o : Option A) → is_some o ≡ false → o ≡ None
absent None e = refl
absent (Some x) e = let bad : true ≡ false = e in cc

-- a fault that is not met, and what is asked after it
pub no_fault : (b : Bool) (fault : ChangeFault) (rest : Option ChangeFault) → (if b then Some fault else rest) ≡ None → (b ≡ false) × (rest ≡ None)
no_fault true fault rest e = let bad : ◌≡◌ {A = Option ChangeFault} (Some fault) None = e in cc
no_fault false fault rest e = (refl, e)

free : (above below : Bool) → (if above then Some NotADirectory else (if below then Some IsADirectory else None)) ≡ None → (above ≡ false) × (below ≡ false)
free above below e = let later = no_fault above NotADirectory _ e in (later.0, (no_fault below IsADirectory None later.1).0)

-- where a file can be, it can be put
put_fits : (m : FileMap) (k : List ℕ) (f : Content) → IsFileMap m → place_fault m k ≡ None → IsFileMap (fin.insert m k f)
put_fits m k f fits e = let place = free (has_file_above m k) (has_file_below m k) e in IsFileMap-insert m k f fits place.0 place.1

pub write_fits : (m : FileMap) (k bytes : List ℕ) (f : Content) → IsFileMap m → write_fault m k bytes ≡ None → IsFileMap (fin.insert m k f)
write_fits m k bytes f fits e = put_fits m k f fits (first-none (place_fault m k) _ e).0

-- what no path passes, no path passes once one is gone
still_none : (m : FileMap) (k : List ℕ) (test : List ℕ → Bool) → list_any test (paths m) ≡ false → list_any test (paths (fin.remove m k)) ≡ false
still_none m k test none = false_from_ne_true (list_any test (paths (fin.remove m k))) gone
  where
    kept : (p : List ℕ) (b : Bool) → same_path p k ≡ b → is_some (cond b None (file_at m p)) ≡ true → is_some (file_at m p) ≡ true
    kept p true e h = let bad : false ≡ true = h in cc
    kept p false e h = h

    before : (p : List ℕ) → list_any (λ q. same_path p q) (paths (fin.remove m k)) ≡ true → list_any (λ q. same_path p q) (paths m) ≡ true
    before p at =
        sym (fin.contains_key-keys m p)
        ∙ kept p (same_path p k) refl (sym (ap is_some (file_at-remove m k p)) ∙ fin.contains_key-keys (fin.remove m k) p ∙ at)

    gone : list_any test (paths (fin.remove m k)) ≡ true → ⊥
    gone e =
        let found = any_witness test (paths (fin.remove m k)) e in
        let bad : true ≡ false = sym (any_some test (paths m) found.0 (before found.0 found.1) found.2) ∙ none in cc

moved_fits : (m : FileMap) (old new : List ℕ) (file : Option Content) → IsFileMap m → has_file_above m new ≡ false → has_file_below m new ≡ false → IsFileMap (moved m old new file)
moved_fits m old new None fits above below = fits
moved_fits m old new (Some f) fits above below =
    IsFileMap-insert (fin.remove m old) new f (IsFileMap-remove m old fits) (still_none m old (λ top. lies_below new top) above) (still_none m old (λ q. lies_below q new) below)

renamed_by : (m : FileMap) (old new : List ℕ) (same : Bool) → IsFileMap m → (if same then None else place_fault m new) ≡ None
    → IsFileMap (if same then m else moved m old new (file_at m old))
renamed_by m old new true fits e = fits
renamed_by m old new false fits e =
    let place = free (has_file_above m new) (has_file_below m new) e in moved_fits m old new (file_at m old) fits place.0 place.1

pub rename_fits : (m : FileMap) (old new : List ℕ) → IsFileMap m → rename_fault m old new ≡ None → IsFileMap (renamed m old new)
rename_fits m old new fits e = renamed_by m old new (same_bytes old new) fits (first-none (absent_fault m old) _ e).1
