-- The difference of two lists of files, each in byte order of the paths, as one pass over
-- both.
use Rattle.std.specs.Prelude.{ℕ, Bool, true, false, ◌&&◌, if◌then◌else◌, List, [], ◌∷◌, map, filter, Option, Some, None}
use Rattle.std.specs.Ordering.{nat_cmp}
use Rattle.std.specs.Cmp.Lexicographic.{slice_cmp}
use Rattle.std.specs.FinMap.Entries.{by_order}
use Rattle.eden_globs.specs.Filters.{Patterns, admits}
use Rattle.eden_ids.specs.declared.id.Id.{Id}
use Rattle.eden_ids.specs.declared.content.Kind.{Kind}
use Rattle.eden_ids.specs.FileMaps.{FileMap, differ, listing, same_kind}
use Rattle.eden_ids.specs.Sameness.{same_id}
use Rattle.eden_objects.specs.Commits.{Row}

-- the paths at which two file maps differ, ascending; `None` if one of the maps is
-- missing
abbrev pub differences : Option FileMap → Option FileMap → Option (List (List ℕ))
differences None second = None
differences (Some f) None = None
differences (Some f) (Some g) = Some (listing (differ f g))

-- those of some paths that a filter admits
abbrev pub admitted : Patterns → List (List ℕ) → List (List ℕ)
admitted wanted ps = filter (admits wanted) ps

abbrev pub option_admitted : Patterns → Option (List (List ℕ)) → Option (List (List ℕ))
option_admitted wanted None = None
option_admitted wanted (Some ps) = Some (admitted wanted ps)

-- those of the differences that a filter admits
abbrev pub admitted_differences : Patterns → Option FileMap → Option FileMap → Option (List (List ℕ))
admitted_differences wanted first second = option_admitted wanted (differences first second)

abbrev pub paths_of : List Row → List (List ℕ)
paths_of rows = map (λ row. row.0) rows

-- the kinds and the blobs are the same
abbrev pub same_row : Row → Row → Bool
same_row r s = same_kind r.1 s.1 && same_id r.2 s.2

-- one row before the others of the first list, whose merge with any list is `rest`
abbrev pub merge_row : Row → (List Row → List (List ℕ)) → List Row → List (List ℕ)
merge_row r rest [] = r.0 ∷ rest []
merge_row r rest (s ∷ ss) =
    by_order (slice_cmp nat_cmp r.0 s.0) (r.0 ∷ rest (s ∷ ss)) (if same_row r s then rest ss else r.0 ∷ rest ss) (s.0 ∷ merge_row r rest ss)

-- the paths of one list alone, and those of both whose rows are not the same
abbrev pub merge_rows : List Row → List Row → List (List ℕ)
merge_rows [] ss = paths_of ss
merge_rows (r ∷ rs) ss = merge_row r (merge_rows rs) ss

-- two optional files are the same: both absent, or the same kind and blob
abbrev pub same_found : Option (Kind × Id) → Option (Kind × Id) → Bool
same_found None None = true
same_found (Some f) (Some g) = same_kind f.0 g.0 && same_id f.1 g.1
same_found _ _ = false
