-- The files of a commit as they are seen through renamed directories, at each path.
use Rattle.std.proofs.Common.{◌≡◌, ℕ, Bool, true, false, cond, ◌||◌, List, [], ◌∷◌, map, Option, Some, None, refl, ap, subst, ◌∙◌}
use Rattle.std.specs.Prelude.{IsSome, if◌then◌else◌}
use Rattle.std.specs.Option.{option_or}
use Rattle.std.specs.Ordering.{nat_cmp}
use Rattle.std.specs.Cmp.Lexicographic.{slice_cmp}
use Rattle.std.specs.FinMap as fin
use Rattle.std.proofs.lemmas.Bool.{or_left, or_right}
use Rattle.std.proofs.lemmas.List.Folds.{list_any-append}
use Rattle.eden_ids.specs.declared.content.Content.{Content}
use Rattle.eden_ids.specs.Paths.{lies_below}
use Rattle.eden_ids.specs.FileMaps.{FileMap, file_at, paths, same_path}
use Rattle.eden_ids.proofs.FileMapLemmas.{file_at-tabulate, held, same_file_map}
use Rattle.eden_overlay.specs.Carried.{carried}
use Rattle.eden_overlay.proofs.CarriedLemmas.{carried-back, mapped}
use Rattle.eden_renames.specs.Renames.{Entry, Renames, file_from, nearest, seen_by, seen_paths, seen_through, source_by, source_of}
use Rattle.eden_renames.specs.internal.Listed.{is_listed}
use Rattle.eden_renames.proofs.Nearest.{source_is}

no_file : {A : Type 0} → IsSome {T = Content} None → A
no_file h = absurd (let bad : false ≡ true = h in cc)

-- the path at which a file is seen is one that is looked at
looked_at : (files : FileMap) (es : List Entry) (p : List ℕ) → IsSome (file_from files (source_by (nearest es p) p)) → is_listed (seen_paths (paths files) es) p ≡ true
looked_at files [] p some = held files p some
looked_at files (e ∷ es) p some =
    list_any-append (λ q. same_path p q) (seen_by (paths files) e) (seen_paths (paths files) es)
    ∙ by (nearest es p) (lies_below p e.0) refl (looked_at files es p) some
  where
    here : (top : List ℕ) (source : Option (List ℕ)) → lies_below p top ≡ true → IsSome (file_from files (source_by (Some (top, source)) p))
        → is_listed (seen_by (paths files) (top, source)) p ≡ true
    here top None below there = no_file there
    here top (Some source) below there =
        subst (λ q. is_listed (map (carried source top) (paths files)) q ≡ true) (carried-back top source p below)
        (mapped (carried source top) (paths files) (carried top source p) (held files (carried top source p) there))

    by : (o : Option Entry) (b : Bool) → lies_below p e.0 ≡ b → (IsSome (file_from files (source_by o p)) → is_listed (seen_paths (paths files) es) p ≡ true)
        → IsSome (file_from files (source_by (option_or o (if b then Some e else None)) p))
        → (is_listed (seen_by (paths files) e) p || is_listed (seen_paths (paths files) es) p) ≡ true
    by (Some f) b is rest there = or_right (is_listed (seen_by (paths files) e) p) _ (rest there)
    by None true is rest there = or_left _ _ (here e.0 e.1 is there)
    by None false is rest there = or_right (is_listed (seen_by (paths files) e) p) _ (rest there)

pub enough : {X : Type 0} (listed : Bool) (o : Option X) → (IsSome o → listed ≡ true) → cond listed o None ≡ o
enough true o h = refl
enough false None h = refl
enough false (Some x) h = absurd (let bad : false ≡ true = h refl in cc)

-- at every path
pub file_at-seen : (files : FileMap) (renames : Renames) (p : List ℕ) → file_at (seen_through files renames) p ≡ file_from files (source_of renames p)
unfolding seen_through
file_at-seen files renames p =
    file_at-tabulate (seen_paths (paths files) (fin.entries renames)) (λ path. file_from files (source_of renames path)) p
    ∙ enough (is_listed (seen_paths (paths files) (fin.entries renames)) p) (file_from files (source_of renames p)) (looked_at files (fin.entries renames) p)

-- where nothing was renamed
pub seen-unmoved : (files : FileMap) → seen_through files fin.empty ≡ files
seen-unmoved files =
    same_file_map (seen_through files fin.empty) files
    (λ p. file_at-seen files fin.empty p ∙ ap (file_from files) (source_is fin.empty p None (λ d above. fin.get-empty (slice_cmp nat_cmp) d)))
