-- The merge of the files of two commits lists the paths on which their file maps differ.
use Rattle.std.proofs.Common.{◌≡◌, ℕ, inl, inr, Bool, true, false, cond, not, ◌&&◌, List, [], ◌∷◌, map, length, Option, Some, None, refl, sym, ap, subst, ◌∙◌, arith}
use Rattle.std.proofs.lemmas.Bool.{cases_Bool}
use Rattle.std.proofs.lemmas.Slice.Eq.{bytes_eq-Decides}
use Rattle.std.specs.declared.cmp.Ordering.TheVariants.{Less}
use Rattle.std.specs.Ordering.{nat_cmp}
use Rattle.std.specs.Cmp.{both_ways}
use Rattle.std.specs.Cmp.Lexicographic.{slice_cmp, nat_list_cmp_total}
use Rattle.std.specs.List.{AllByRecursion}
use Rattle.std.specs.List.Sorted.{IsStrictlySortedBy}
use Rattle.std.specs.FinMap as fin
use Rattle.std.specs.FinMap.{put}
use Rattle.std.specs.FinMap.Entries.{by_order}
use Rattle.eden_ids.specs.declared.id.Id.{Id}
use Rattle.eden_ids.specs.declared.content.Kind.{Kind}
use Rattle.eden_ids.specs.FileMaps.{differ, file_at, listing, path_set, same_file, same_kind}
use Rattle.eden_ids.proofs.FileMapLemmas.{has-differ, has-path_set, same_path_set}
use Rattle.eden_git.specs.declared.object_type.ObjectType.TheVariants.{Blob}
use Rattle.eden_objects.specs.Objects.{Held, find, payload_of}
use Rattle.eden_git.specs.ObjectTypes.{type_text}
use Rattle.eden_ids.specs.Sameness.{same_bytes, same_id}
use Rattle.eden_objects.specs.Commits.{Row, commit_map, find_row, map_of_rows}
use Rattle.eden_objects.specs.Closed.{IsHeld, AllNamed}
use Rattle.eden_objects.specs.Walks.{content_found}
use Rattle.eden_objects.proofs.Closed.{find-here, find-there}
use Rattle.eden_objects.proofs.CommitLaws.{rows_blobs, rows_rise}
use Rattle.eden_objects.proofs.Maps.{map_of, file_at-map_of}
use Rattle.eden_treediff.specs.Merges.{differences, merge_rows, same_found}
use Rattle.eden_treediff.specs.Laws.{MergesAreDifferences, Rise}
use Rattle.eden_treediff.proofs.Exact.{exact_law}
use Rattle.eden_treediff.proofs.Ascending.{ascending_law}
use Rattle.eden_segments.proofs.Distinct.{same_id-is}

-- an object's id is its name
name_of : (name : List ℕ → List ℕ → Id) (held : List Held) → AllNamed name held → (id : Id) (h : Held) → find id held ≡ Some h → name (type_text h.object_type) h.payload ≡ id
name_of name [] named id h found = absurd (cc)
name_of name (top ∷ earlier) named id h found = elim (cases_Bool (same_id id top.id)) [
  | inl t ↦
      let e : Some top ≡ Some h = sym (find-here id top earlier t) ∙ found in
      let same : top ≡ h = cc in
      subst (λ o. name (type_text o.object_type) o.payload ≡ id) same (named.0 ∙ sym (same_id-is id top.id t))
  | inr f ↦ name_of name earlier named.1 id h (sym (find-there id top earlier f) ∙ found)
]

-- blobs have one id where they have the same bytes
same_blob : (name : List ℕ → List ℕ → Id) (held : List Held) → AllNamed name held → (i j : Id) (x : IsHeld held Blob i) (y : IsHeld held Blob j)
    → same_bytes x.0.payload y.0.payload ≡ same_id i j
same_blob name held named i j x y = both_ways _ _ there back
  where
    there : same_bytes x.0.payload y.0.payload ≡ true → same_id i j ≡ true
    there t =
        let bytes : x.0.payload ≡ y.0.payload = (bytes_eq-Decides x.0.payload y.0.payload).0 t in
        let types : x.0.object_type ≡ y.0.object_type = x.2 ∙ sym y.2 in
        let one : i ≡ j = sym (name_of name held named i x.0 x.1) ∙ (λ k. name (type_text (types k)) (bytes k)) ∙ name_of name held named j y.0 y.1 in
        (bytes_eq-Decides i.0 j.0).1 (ap (λ k. k.0) one)

    back : same_id i j ≡ true → same_bytes x.0.payload y.0.payload ≡ true
    back t =
        let both : Some x.0 ≡ Some y.0 = sym x.1 ∙ ap (λ k. find k held) (same_id-is i j t) ∙ y.1 in
        let one : x.0 ≡ y.0 = cc in
        (bytes_eq-Decides x.0.payload y.0.payload).1 (ap (λ h. h.payload) one)

abbrev FoundBlob : List Held → Option (Kind × Id) → Type 0
FoundBlob held None = Unit {0}
FoundBlob held (Some found) = IsHeld held Blob found.1

blob_if : (held : List Held) (t : Bool) (row : Row) (o : Option (Kind × Id)) → IsHeld held Blob row.2 → FoundBlob held o → FoundBlob held (cond t (Some (row.1, row.2)) o)
blob_if held true row o h g = h
blob_if held false row o h g = g

found_blob : (held : List Held) (p : List ℕ) (rows : List Row) → AllByRecursion (λ row. IsHeld held Blob row.2) rows → FoundBlob held (find_row p rows)
found_blob held p [] all = tt
found_blob held p (row ∷ rows) all = blob_if held (same_bytes row.0 p) row (find_row p rows) all.0 (found_blob held p rows all.1)

same_contents : (name : List ℕ → List ℕ → Id) (held : List Held) → AllNamed name held → (x y : Option (Kind × Id)) → FoundBlob held x → FoundBlob held y
    → same_file (content_found held x) (content_found held y) ≡ same_found x y
same_contents name held named None None f g = refl
same_contents name held named None (Some y) f g = refl
same_contents name held named (Some x) None f g = refl
same_contents name held named (Some x) (Some y) f g =
    ap (λ o. same_kind x.0 y.0 && same_bytes (payload_of o) (payload_of (find y.1 held))) f.1
    ∙ ap (λ o. same_kind x.0 y.0 && same_bytes f.0.payload (payload_of o)) g.1
    ∙ ap (λ b. same_kind x.0 y.0 && b) (same_blob name held named x.1 y.1 f g)

-- the listing of the set of some paths that ascend
abbrev members : List (List ℕ) → List (List ℕ × Unit {0})
members ps = map (λ p. (p, tt)) ps

no_length : (es : List (List ℕ × Unit {0})) → length es ≡ 0 → es ≡ []
no_length [] e = refl
no_length (x ∷ es) e = absurd (omega arith)

put_first : (k : List ℕ) (ps : List (List ℕ)) → AllByRecursion (λ q. slice_cmp nat_cmp k q ≡ Less) ps → put (slice_cmp nat_cmp) k tt (members ps) ≡ (k, tt) ∷ members ps
put_first k [] h = refl
put_first k (p ∷ ps) h = ap (λ r. by_order r ((k, tt) ∷ members (p ∷ ps)) ((p, tt) ∷ members ps) ((p, tt) ∷ put (slice_cmp nat_cmp) k tt (members ps))) h.0

entries_are : (ps : List (List ℕ)) → IsStrictlySortedBy (slice_cmp nat_cmp) ps → fin.entries (path_set ps) ≡ members ps
unfolding IsStrictlySortedBy
entries_are [] h = no_length _ (sym (fin.len-entries fin.empty) ∙ fin.len-empty (slice_cmp nat_cmp) (Unit {0}))
entries_are (p ∷ ps) h =
    fin.entries-insert nat_list_cmp_total (path_set ps) p tt ∙ ap (put (slice_cmp nat_cmp) p tt) (entries_are ps h.1) ∙ put_first p ps h.0

paths_again : (ps : List (List ℕ)) → map (λ (e : List ℕ × Unit {0}). e.0) (members ps) ≡ ps
paths_again [] = refl
paths_again (p ∷ ps) = ap (λ (qs : List (List ℕ)). p ∷ qs) (paths_again ps)

listing_is : (ps : List (List ℕ)) → IsStrictlySortedBy (slice_cmp nat_cmp) ps → listing (path_set ps) ≡ ps
listing_is ps rise = ap (map (λ e. e.0)) (entries_are ps rise) ∙ paths_again ps

of_rows : (name : List ℕ → List ℕ → Id) (held : List Held) → AllNamed name held → (rs ss : List Row) → Rise rs → Rise ss
    → AllByRecursion (λ row. IsHeld held Blob row.2) rs → AllByRecursion (λ row. IsHeld held Blob row.2) ss
    → listing (differ (map_of held rs) (map_of held ss)) ≡ merge_rows rs ss
of_rows name held named rs ss rise rises blobs others =
    ap listing (sym (same_path_set (path_set (merge_rows rs ss)) (differ (map_of held rs) (map_of held ss))
    (λ p. has-path_set (merge_rows rs ss) p ∙ exact_law rs ss rise rises p
    ∙ ap not (sym (same_contents name held named (find_row p rs) (find_row p ss) (found_blob held p rs blobs) (found_blob held p ss others)))
    ∙ ap (λ f. not (same_file f (content_found held (find_row p ss)))) (sym (file_at-map_of held rs p))
    ∙ ap (λ f. not (same_file (file_at (map_of held rs) p) f)) (sym (file_at-map_of held ss p))
    ∙ sym (has-differ (map_of held rs) (map_of held ss) p))))
    ∙ listing_is (merge_rows rs ss) (ascending_law rs ss rise rises)

pub listed_law : MergesAreDifferences
listed_law name held closed named first second rs ss one two =
    ap (λ f. differences f (commit_map held second)) (ap (map_of_rows held) one)
    ∙ ap (λ g. differences (Some (map_of held rs)) g) (ap (map_of_rows held) two)
    ∙ ap Some (of_rows name held named rs ss (rows_rise held closed first rs one) (rows_rise held closed second ss two) (rows_blobs held closed first rs one) (rows_blobs held closed second ss two))
