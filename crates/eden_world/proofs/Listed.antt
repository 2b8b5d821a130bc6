-- What the rows of a commit say of its files.
use Rattle.std.proofs.Common.{◌≡◌, ℕ, true, false, ◌||◌, List, [], ◌∷◌, map, Option, Some, None, is_some, refl, sym, ap, ◌∙◌}
use Rattle.std.specs.Prelude.{filter}
use Rattle.std.specs.List.{list_any}
use Rattle.std.specs.FinMap as fin
use Rattle.eden_globs.specs.Filters.{Patterns, admits, all_paths}
use Rattle.eden_ids.specs.declared.id.Id.{Id}
use Rattle.eden_ids.specs.FileMaps.{paths, no_files, same_path}
use Rattle.eden_ids.proofs.FileMapLemmas.{file_at-none, same_path-refl}
use Rattle.eden_objects.specs.Objects.{Held}
use Rattle.eden_objects.specs.Closed.{IsClosed}
use Rattle.eden_objects.specs.Commits.{Row, commit_rows, map_of_rows, rows_where}
use Rattle.eden_objects.specs.Files.{commit_files, files_of}
use Rattle.eden_objects.proofs.CommitLaws.{rows_listed}

all_rows : (rows : List Row) → filter (λ row. admits all_paths row.0) rows ≡ rows
all_rows [] = refl
all_rows (row ∷ rows) = ap (λ rs. row ∷ rs) (all_rows rows)

listed_by : (held : List Held) → IsClosed held → (id : Id) (found : Option (List Row)) (rows : List Row) → commit_rows held id ≡ found
    → rows_where (admits all_paths) found ≡ Some rows → map (λ row. row.0) rows ≡ paths (files_of (map_of_rows held found))
listed_by held closed id None rows e h = let bad : ◌≡◌ {A = Option (List Row)} None (Some rows) = h in cc
listed_by held closed id (Some all) rows e h =
    let one : ◌≡◌ {A = Option (List Row)} (Some (filter (λ row. admits all_paths row.0) all)) (Some rows) = h in
    let same : filter (λ row. admits all_paths row.0) all ≡ rows = cc in
    ap (map (λ row. row.0)) (sym same ∙ all_rows all)
    ∙ sym (rows_listed held closed id all (files_of (map_of_rows held (Some all))) e (ap (map_of_rows held) e))

-- a listing of all rows has the paths of the commit's files
pub rows_paths : (held : List Held) (id : Id) (patterns : Patterns) (rows : List Row) → IsClosed held → patterns ≡ all_paths
    → rows_where (admits patterns) (commit_rows held id) ≡ Some rows → map (λ row. row.0) rows ≡ paths (commit_files held id)
rows_paths held id patterns rows closed none h =
    listed_by held closed id (commit_rows held id) rows refl (sym (ap (λ ps. rows_where (admits ps) (commit_rows held id)) none) ∙ h)

none-listed : (ks : List (List ℕ)) → ((p : List ℕ) → list_any (λ q. same_path p q) ks ≡ false) → ks ≡ []
none-listed [] h = refl
none-listed (k ∷ ks) h =
    let bad : true ≡ false = sym (ap (λ b. b || list_any (λ q. same_path k q) ks) (same_path-refl k)) ∙ h k in absurd (cc)

paths-none : paths no_files ≡ []
paths-none = none-listed (paths no_files) (λ p. sym (fin.contains_key-keys no_files p) ∙ ap is_some (file_at-none p))

none_by : (held : List Held) (patterns : Patterns) (found : Option (List Row)) → ◌≡◌ {A = Option (List Row)} (rows_where (admits patterns) found) None → [] ≡ paths (files_of (map_of_rows held found))
none_by held patterns None h = sym paths-none
none_by held patterns (Some rows) h = let bad : ◌≡◌ {A = Option (List Row)} (Some (filter (λ row. admits patterns row.0) rows)) None = h in cc

-- and there are none where the commit isn't there
pub no_rows : (held : List Held) (id : Id) (patterns : Patterns) → rows_where (admits patterns) (commit_rows held id) ≡ None → [] ≡ paths (commit_files held id)
no_rows held id patterns h = none_by held patterns (commit_rows held id) h
