-- The file map of a commit holds just its rows.
use Rattle.std.proofs.Common.{◌≡◌, ℕ, Bool, true, false, cond, List, [], ◌∷◌, map, length, Option, Some, None, is_some, refl, sym, ap, subst, ◌∙◌, arith}
use Rattle.std.specs.Prelude.{IsSome}
use Rattle.std.specs.declared.cmp.Ordering.TheVariants.{Less}
use Rattle.std.specs.Ordering.{nat_cmp, eq_by_cmp}
use Rattle.std.specs.Cmp.{unsigned_ties, eq_by_cmp_equiv}
use Rattle.std.specs.Cmp.Lexicographic.{slice_cmp, nat_list_cmp_total, lists_ties}
use Rattle.std.specs.List.{AllByRecursion}
use Rattle.std.specs.List.Sorted.{IsStrictlySortedBy}
use Rattle.std.specs.FinMap as fin
use Rattle.std.specs.FinMap.{put}
use Rattle.std.specs.FinMap.Entries.{by_order}
use Rattle.eden_ids.specs.declared.id.Id.{Id}
use Rattle.eden_ids.specs.declared.content.Kind.{Kind}
use Rattle.eden_ids.specs.declared.content.Content.{Content}
use Rattle.eden_ids.specs.FileMaps.{FileMap, file_at, paths, IsFileMap}
use Rattle.eden_objects.specs.Objects.{Held}
use Rattle.eden_ids.specs.Sameness.{same_bytes}
use Rattle.eden_objects.specs.Commits.{Row, content_of, find_row}
use Rattle.eden_objects.specs.Walks.{content_found}
use Rattle.eden_objects.proofs.Clashes.{NoneClash, found_do_not_clash}

abbrev pub contents : List Held → List Row → List (List ℕ × Content)
contents held rows = map (λ row. (row.0, content_of held row)) rows

-- the map of some rows
abbrev pub map_of : List Held → List Row → FileMap
map_of held rows = fin.from_entries (map (λ row. (row.0, content_of held row)) rows)

pub same_test : (p q : List ℕ) → eq_by_cmp (slice_cmp nat_cmp) p q ≡ same_bytes q p
same_test p q = (eq_by_cmp_equiv nat_list_cmp_total).symm p q ∙ sym (lists_ties nat_cmp unsigned_ties q p)

found_if : (held : List Held) (t : Bool) (row : Row) (o : Option (Kind × Id)) → cond t (Some (content_of held row)) (content_found held o) ≡ content_found held (cond t (Some (row.1, row.2)) o)
found_if held true row o = refl
found_if held false row o = refl

find_content : (held : List Held) (p : List ℕ) (rows : List Row) → fin.find (slice_cmp nat_cmp) p (contents held rows) ≡ content_found held (find_row p rows)
find_content held p [] = refl
find_content held p (row ∷ rows) =
    let test = same_test p row.0 in
    let rest = find_content held p rows in
    (λ i. cond (test i) (Some (content_of held row)) (rest i)) ∙ found_if held (same_bytes row.0 p) row (find_row p rows)

pub file_at-map_of : (held : List Held) (rows : List Row) (p : List ℕ) → file_at (map_of held rows) p ≡ content_found held (find_row p rows)
file_at-map_of held rows p = fin.get-from_entries nat_list_cmp_total (contents held rows) p ∙ find_content held p rows

keys_alone : (held : List Held) (rows : List Row) → map (λ (e : List ℕ × Content). e.0) (contents held rows) ≡ map (λ row. row.0) rows
keys_alone held [] = refl
keys_alone held (row ∷ rows) = ap (λ (ps : List (List ℕ)). row.0 ∷ ps) (keys_alone held rows)

no_length : (es : List (List ℕ × Content)) → length es ≡ 0 → es ≡ []
no_length [] e = refl
no_length (x ∷ es) e = absurd (omega arith)

put_first : (k : List ℕ) (v : Content) (es : List (List ℕ × Content)) → AllByRecursion (λ q. slice_cmp nat_cmp k q ≡ Less) (map (λ e. e.0) es) → put (slice_cmp nat_cmp) k v es ≡ (k, v) ∷ es
put_first k v [] h = refl
put_first k v (e ∷ es) h = ap (λ r. by_order r ((k, v) ∷ e ∷ es) ((e.0, v) ∷ es) (e ∷ put (slice_cmp nat_cmp) k v es)) h.0

-- a map of entries in order lists them
entries_are : (es : List (List ℕ × Content)) → IsStrictlySortedBy (slice_cmp nat_cmp) (map (λ e. e.0) es) → fin.entries (fin.from_entries {R = slice_cmp nat_cmp} es) ≡ es
unfolding IsStrictlySortedBy
entries_are [] h = no_length _ (sym (fin.len-entries fin.empty) ∙ fin.len-empty (slice_cmp nat_cmp) Content)
entries_are (e ∷ es) h =
    fin.entries-insert nat_list_cmp_total (fin.from_entries es) e.0 e.1 ∙ ap (put (slice_cmp nat_cmp) e.0 e.1) (entries_are es h.1) ∙ put_first e.0 e.1 es h.0

pub paths-map_of : (held : List Held) (rows : List Row) → IsStrictlySortedBy (slice_cmp nat_cmp) (map (λ row. row.0) rows) → paths (map_of held rows) ≡ map (λ row. row.0) rows
paths-map_of held rows rise =
    ap (map (λ e. e.0)) (entries_are (contents held rows) (subst (IsStrictlySortedBy (slice_cmp nat_cmp)) (sym (keys_alone held rows)) rise)) ∙ keys_alone held rows

pub is_found : (held : List Held) (o : Option (Kind × Id)) → is_some (content_found held o) ≡ is_some o
is_found held None = refl
is_found held (Some found) = refl

pub IsFileMap-map_of : (held : List Held) (rows : List Row) → NoneClash rows → IsFileMap (map_of held rows)
IsFileMap-map_of held rows none p q first second =
    found_do_not_clash rows p q none (row p first) (row q second)
  where
    row : (r : List ℕ) → IsSome (file_at (map_of held rows) r) → is_some (find_row r rows) ≡ true
    row r some = sym (ap is_some (file_at-map_of held rows r) ∙ is_found held (find_row r rows)) ∙ some
