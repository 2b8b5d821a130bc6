-- A rename of a directory that is not refused: nothing is where it puts files, each path that it makes is one, and nothing but the
-- limits of length and depth can break a path.
use Rattle.std.proofs.Common.{◌≡◌, ℕ, Bool, true, false, not, ◌&&◌, nat_eq, nat_lt, List, [], ◌∷◌, ◌++◌, length, Some, None, is_some, refl, sym, ap, ◌∙◌, arith}
use Rattle.std.specs.Prelude.{IsSome, if◌then◌else◌}
use Rattle.std.specs.List.{list_all}
use Rattle.std.proofs.lemmas.Bool.{ne_eqb, or_parts}
use Rattle.eden_ids.specs.declared.path.PathFault.TheVariants.{Empty, TooLong, BadComponent, TooDeep}
use Rattle.eden_ids.specs.Paths.{IsPath, components, is_component, lies_below, path_fault}
use Rattle.eden_ids.specs.FileMaps.{FileMap, IsFileMap, file_at, has_file_above, paths}
use Rattle.eden_ids.specs.Sameness.{same_bytes}
use Rattle.eden_ids.proofs.FileMapLemmas.{held, unlisted}
use Rattle.eden_history.specs.declared.change.ChangeFault.TheVariants.{NotADirectory, IntoItself, PathTooLong}
use Rattle.eden_overlay.specs.Carried.{carried, carried_files}
use Rattle.eden_history.specs.DirRenames.{breaks_a_path, dir_renamed, free_fault, has_file_upward, rename_dir_fault, source_fault, target_fault}
use Rattle.eden_overlay.proofs.CarriedLemmas.{carried-elsewhere, carried_fits, carried_there, rest_below}
use Rattle.eden_overlay.proofs.Joined.{and_both, names_alone, names_joined}
use Rattle.eden_history.proofs.RenameLaws.{absent, first-none, no_fault}

-- ---- what a rename that is not refused finds

-- no file is at the new path or above it, and each moved path is a path
pub is_allowed : (m : FileMap) (old new : List ℕ) → target_fault m old new ≡ None → (has_file_upward m new ≡ false) × (breaks_a_path m old new ≡ false)
is_allowed m old new e =
    let parts = first-none (free_fault m new) _ (no_fault (lies_below new old) IntoItself _ e).1 in
    ((no_fault (has_file_upward m new) NotADirectory _ parts.0).0, (no_fault (breaks_a_path m old new) PathTooLong None parts.1).0)

-- ---- the files after it

pub rename_dir_fits : (m : FileMap) (old new : List ℕ) → IsFileMap m → rename_dir_fault m old new ≡ None → IsFileMap (dir_renamed m old new)
rename_dir_fits m old new fits allowed = by (same_bytes old new) (first-none (source_fault m old) _ allowed).1
  where
    by : (same : Bool) → (if same then None else target_fault m old new) ≡ None → IsFileMap (if same then m else carried_files m old new)
    by true e = fits
    by false e =
        let free = or_parts (is_some (file_at m new)) (has_file_above m new) (is_allowed m old new e).0 in
        carried_fits m old new fits (absent (file_at m new) free.0) free.1

-- a path below neither directory keeps what is there
pub dir_renamed-elsewhere : (m : FileMap) (old new p : List ℕ) → lies_below p old ≡ false → lies_below p new ≡ false → file_at (dir_renamed m old new) p ≡ file_at m p
dir_renamed-elsewhere m old new p from to = by (same_bytes old new)
  where
    by : (same : Bool) → file_at (if same then m else carried_files m old new) p ≡ file_at m p
    by true = refl
    by false = carried-elsewhere m old new p from to

-- ---- the paths of the moved files

-- where no path breaks, each moved path is one
pub carried_path : (m : FileMap) (old new p : List ℕ) → breaks_a_path m old new ≡ false → IsSome (file_at m p) → lies_below p old ≡ true → IsPath (carried old new p)
carried_path m old new p whole there below =
    absent (path_fault (carried old new p))
    (sym (ap (λ b. b && is_some (path_fault (carried old new p))) below)
    ∙ unlisted (λ q. lies_below q old && is_some (path_fault (carried old new q))) (paths m) p whole (held m p there))

filled : (top rest : List ℕ) → nat_eq (length (top ++ 47 ∷ rest)) 0 ≡ false
filled [] rest = ne_eqb (length (47 ∷ rest)) 0 (λ e. omega arith)
filled (b ∷ top) rest = ne_eqb (length (b ∷ (top ++ 47 ∷ rest))) 0 (λ e. omega arith)

-- nothing but length and depth breaks a moved path
pub carried-fault : (old new p : List ℕ) → IsPath new → IsPath p → lies_below p old ≡ true
    → path_fault (carried old new p)
    ≡ (if nat_lt 1024 (length (carried old new p)) then Some TooLong else if nat_lt 64 (length (components (carried old new p))) then Some TooDeep else None)
carried-fault old new p there here below =
    let at = rest_below p old below in
    let place : carried old new p ≡ new ++ 47 ∷ at.0 = ap (carried old new) at.1 ∙ carried_there old new (47 ∷ at.0) in
    let names = names_joined old at.0 in
    let rest = (and_both _ _ (sym names ∙ ap (λ q. list_all is_component (components q)) (sym at.1) ∙ names_alone p here)).1 in
    let all : list_all is_component (components (carried old new p)) ≡ true =
    ap (λ q. list_all is_component (components q)) place ∙ names_joined new at.0 ∙ (λ i. names_alone new there i && rest i) in
    let some : nat_eq (length (carried old new p)) 0 ≡ false = ap (λ q. nat_eq (length q) 0) place ∙ filled new at.0 in
    by (nat_eq (length (carried old new p)) 0) (nat_lt 1024 (length (carried old new p))) (list_all is_component (components (carried old new p))) some all
  where
    by : (empty long names : Bool) → empty ≡ false → names ≡ true
        → (if empty then Some Empty else if long then Some TooLong else if not names then Some BadComponent else
        if nat_lt 64 (length (components (carried old new p))) then Some TooDeep else None)
        ≡ (if long then Some TooLong else if nat_lt 64 (length (components (carried old new p))) then Some TooDeep else None)
    by true long names e all = cc
    by false long false e all = cc
    by false true true e all = refl
    by false false true e all = refl
