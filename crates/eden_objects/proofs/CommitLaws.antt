-- What holds of the rows of a tree holds of those of a commit.
use Rattle.std.proofs.Common.{◌≡◌, inl, inr, cond, List, [], map, Option, Some, None, refl, sym, ap, subst, ◌∙◌}
use Rattle.std.proofs.lemmas.Bool.{cases_Bool}
use Rattle.std.specs.Ordering.{nat_cmp}
use Rattle.std.specs.Cmp.Lexicographic.{slice_cmp}
use Rattle.std.specs.List.{AllByRecursion}
use Rattle.std.specs.List.Sorted.{IsStrictlySortedBy}
use Rattle.eden_ids.specs.declared.id.Id.{Id}
use Rattle.eden_ids.specs.FileMaps.{FileMap, file_at, paths, IsFileMap}
use Rattle.eden_ids.specs.Paths.{path_fault}
use Rattle.eden_git.specs.declared.object_type.ObjectType.TheVariants.{Blob, Commit}
use Rattle.eden_objects.specs.Objects.{Held, find, zero_id}
use Rattle.eden_git.specs.ObjectTypes.{same_type}
use Rattle.eden_ids.specs.Sameness.{same_id}
use Rattle.eden_objects.specs.Commits.{Row, tree_rows, rows_named, rows_held, commit_rows, map_of_rows, commit_map}
use Rattle.eden_git.specs.Commits.{tree_named}
use Rattle.eden_objects.specs.Closed.{IsHeld, HasTree, IsClosed}
use Rattle.eden_objects.specs.Laws.{CommitsAreFileMaps, CommitsListTheirRows, RowsRise, RowsAreLegal, RowsAreFiles, RowsNameBlobs}
use Rattle.eden_objects.proofs.Closed.{commit_in}
use Rattle.eden_objects.proofs.Rising.{rising_law}
use Rattle.eden_objects.proofs.Fitting.{fitting_law}
use Rattle.eden_objects.proofs.Clashes.{NoneClash, none_clash}
use Rattle.eden_objects.proofs.Blobs.{all_blobs}
use Rattle.eden_objects.proofs.Maps.{map_of, file_at-map_of, paths-map_of, IsFileMap-map_of}
use Rattle.eden_objects.proofs.Refusals.{same_type-is}

-- a commit that is held has a tree
pub commit-tree : (held : List Held) → IsClosed held → (commit : Id) (h : Held) (rows : List Row) → find commit held ≡ Some h → rows_held held (Some h) ≡ Some rows
    → (tree : Id) × (tree_named h.payload ≡ Some tree) × HasTree held tree × (tree_rows held tree ≡ rows)
commit-tree held closed commit h rows found is = elim (cases_Bool (same_type h.object_type Commit)) [
  | inl t ↦
      let named = commit_in held closed commit h found (same_type-is h.object_type Commit t) in
      let e : rows_held held (Some h) ≡ Some (tree_rows held named.0) =
      ap (λ b. cond b (rows_named held (tree_named h.payload)) None) t ∙ ap (rows_named held) named.1 in
      let same : Some (tree_rows held named.0) ≡ Some rows = sym e ∙ is in
      (named.0, named.1, named.2, (let same_rows : tree_rows held named.0 ≡ rows = cc in same_rows))
  | inr f ↦ let e : rows_held held (Some h) ≡ None = ap (λ b. cond b (rows_named held (tree_named h.payload)) None) f in absurd (cc)
]

on_found : (P : List Row → Type 0) (held : List Held) → IsClosed held → ((tree : Id) → HasTree held tree → P (tree_rows held tree)) → (commit : Id) (o : Option Held) (rows : List Row)
    → find commit held ≡ o → rows_held held o ≡ Some rows → P rows
on_found P held closed trees commit None rows found is = absurd (cc)
on_found P held closed trees commit (Some h) rows found is =
    let tree = commit-tree held closed commit h rows found is in subst P tree.3 (trees tree.0 tree.2)

-- what holds of no rows and of those of each tree
pub on_rows : (P : List Row → Type 0) (held : List Held) → IsClosed held → P [] → ((tree : Id) → HasTree held tree → P (tree_rows held tree)) → (commit : Id) (rows : List Row)
    → commit_rows held commit ≡ Some rows → P rows
on_rows P held closed none trees commit rows is = elim (cases_Bool (same_id commit zero_id)) [
  | inl t ↦
      let e : commit_rows held commit ≡ Some [] = ap (λ b. cond b (Some []) (rows_held held (find commit held))) t in
      let both : Some [] ≡ Some rows = sym e ∙ is in
      let same : [] ≡ rows = cc in
      subst P same none
  | inr f ↦ on_found P held closed trees commit (find commit held) rows refl (sym (ap (λ b. cond b (Some []) (rows_held held (find commit held))) f) ∙ is)
]

pub rows_rise : RowsRise
unfolding IsStrictlySortedBy
rows_rise held closed = on_rows (λ rows. IsStrictlySortedBy (slice_cmp nat_cmp) (map (λ row. row.0) rows)) held closed tt (rising_law held closed)

pub rows_legal : RowsAreLegal
rows_legal held closed = on_rows (λ rows. AllByRecursion (λ row. path_fault row.0 ≡ None) rows) held closed tt (fitting_law held closed)

pub rows_blobs : RowsNameBlobs
rows_blobs held closed = on_rows (λ rows. AllByRecursion (λ row. IsHeld held Blob row.2) rows) held closed tt (all_blobs held closed)

rows_apart : (held : List Held) → IsClosed held → (commit : Id) (rows : List Row) → commit_rows held commit ≡ Some rows → NoneClash rows
rows_apart held closed = on_rows NoneClash held closed tt (none_clash held closed)

-- the map is that of the rows
map_is : (held : List Held) (commit : Id) (rows : List Row) (files : FileMap) → commit_rows held commit ≡ Some rows → commit_map held commit ≡ Some files → map_of held rows ≡ files
map_is held commit rows files is map =
    let both : Some (map_of held rows) ≡ Some files = sym (ap (map_of_rows held) is) ∙ map in cc

pub rows_files : RowsAreFiles
rows_files held commit rows files is map p = ap (λ m. file_at m p) (sym (map_is held commit rows files is map)) ∙ file_at-map_of held rows p

pub rows_listed : CommitsListTheirRows
rows_listed held closed commit rows files is map =
    ap paths (sym (map_is held commit rows files is map)) ∙ paths-map_of held rows (rows_rise held closed commit rows is)

by_option : (held : List Held) → IsClosed held → (commit : Id) (o : Option (List Row)) (files : FileMap) → commit_rows held commit ≡ o → map_of_rows held o ≡ Some files → IsFileMap files
by_option held closed commit None files is map = absurd (cc)
by_option held closed commit (Some rows) files is map =
    let same : map_of held rows ≡ files = cc in subst IsFileMap same (IsFileMap-map_of held rows (rows_apart held closed commit rows is))

pub file_maps : CommitsAreFileMaps
file_maps held closed commit files map = by_option held closed commit (commit_rows held commit) files refl map
