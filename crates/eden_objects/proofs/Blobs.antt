-- Each file of a tree is a blob of the store.
use Rattle.std.proofs.Common.{◌≡◌, ℕ, ◌++◌, inl, inr, cond, List, [], ◌∷◌, map, Option, Some, None, sym, ap, subst, ◌∙◌}
use Rattle.std.proofs.lemmas.Bool.{cases_Bool}
use Rattle.std.specs.List.{AllByRecursion}
use Rattle.eden_ids.specs.declared.id.Id.{Id}
use Rattle.eden_ids.specs.declared.content.Kind.{Kind}
use Rattle.eden_git.specs.declared.object_type.ObjectType.TheVariants.{Blob}
use Rattle.eden_objects.specs.Objects.{Held, find}
use Rattle.eden_ids.specs.Sameness.{same_bytes, same_id}
use Rattle.eden_git.specs.Trees.{Entry, entries_of}
use Rattle.eden_objects.specs.Commits.{Row, under, rows_of_kind, entry_rows, entries_rows, find_row, tree_rows}
use Rattle.eden_objects.specs.Puts.{type_wanted}
use Rattle.eden_objects.specs.Closed.{IsHeld, HasTree, IsTree, IsSound, IsClosed}
use Rattle.eden_objects.proofs.Closed.{find-here, find-there, fold-here, fold-there, held_stays}

abbrev pub AllBlobs : List Held → List Row → Type 0
AllBlobs held rows = AllByRecursion (λ row. IsHeld held Blob row.2) rows

blobs_append : (held : List Held) (xs ys : List Row) → AllBlobs held xs → AllBlobs held ys → AllBlobs held (xs ++ ys)
blobs_append held [] ys h g = g
blobs_append held (x ∷ xs) ys h g = (h.0, blobs_append held xs ys h.1 g)

blobs_under : (held : List Held) (n : List ℕ) (rows : List Row) → AllBlobs held rows → AllBlobs held (map (under n) rows)
blobs_under held n [] h = tt
blobs_under held n (row ∷ rows) h = (h.0, blobs_under held n rows h.1)

blobs_stay : (top : Held) (earlier : List Held) (rows : List Row) → find top.id earlier ≡ None → AllBlobs earlier rows → AllBlobs (top ∷ earlier) rows
blobs_stay top earlier [] new h = tt
blobs_stay top earlier (row ∷ rows) new h = (held_stays top earlier Blob row.2 new h.0, blobs_stay top earlier rows new h.1)

entry_blobs : (held : List Held) (n : List ℕ) (kind : Option Kind) (id : Id) (below : List Row) → IsHeld held (type_wanted kind) id → (HasTree held id → AllBlobs held below)
    → AllBlobs held (rows_of_kind n kind id below)
entry_blobs held n None id below is dir = blobs_under held n below (dir is)
entry_blobs held n (Some kind) id below is dir = (is, tt)

entries_blobs : (held : List Held) (es : List Entry) → ((id : Id) → HasTree held id → AllBlobs held (tree_rows held id)) → AllByRecursion (λ e. IsHeld held (type_wanted e.kind) e.id) es
    → AllBlobs held (entries_rows (tree_rows held) es)
entries_blobs held [] dirs all = tt
entries_blobs held (e ∷ es) dirs all =
    blobs_append held (entry_rows (tree_rows held) e) (entries_rows (tree_rows held) es)
    (entry_blobs held e.name e.kind e.id (tree_rows held e.id) all.0 (dirs e.id)) (entries_blobs held es dirs all.1)

pub all_blobs : (held : List Held) → IsClosed held → (id : Id) → HasTree held id → AllByRecursion (λ row. IsHeld held Blob row.2) (tree_rows held id)
all_blobs [] closed id has = absurd (let found : None ≡ Some has.0 = has.1 in cc)
all_blobs (top ∷ earlier) closed id has = elim (cases_Bool (same_id id top.id)) [
  | inl t ↦
      let e : Some top ≡ Some has.0 = sym (find-here id top earlier t) ∙ has.1 in
      let same : top ≡ has.0 = cc in
      let is : IsTree earlier (entries_of top.payload) = subst (λ w. IsSound w top.payload earlier) (ap (λ o. o.object_type) same ∙ has.2) closed.1 in
      let rows : tree_rows (top ∷ earlier) id ≡ entries_rows (tree_rows earlier) (entries_of top.payload) = fold-here [] entries_rows id top earlier t in
      blobs_stay top earlier (tree_rows (top ∷ earlier) id) closed.0
      (subst (AllBlobs earlier) (sym rows) (entries_blobs earlier (entries_of top.payload) (all_blobs earlier closed.2) is.0))
  | inr f ↦
      let before : HasTree earlier id = (has.0, sym (find-there id top earlier f) ∙ has.1, has.2) in
      let rows : tree_rows (top ∷ earlier) id ≡ tree_rows earlier id = fold-there [] entries_rows id top earlier f in
      blobs_stay top earlier (tree_rows (top ∷ earlier) id) closed.0 (subst (AllBlobs earlier) (sym rows) (all_blobs earlier closed.2 id before))
]

abbrev id_found : Id → Option (Kind × Id) → Id
id_found other None = other
id_found other (Some found) = found.1

-- a file that is found among them has its blob
found_in : (held : List Held) (p : List ℕ) (rows : List Row) (kind : Kind) (id : Id) → AllBlobs held rows → Some (kind, id) ≡ find_row p rows → IsHeld held Blob id
found_in held p [] kind id all found = absurd (cc)
found_in held p (row ∷ rows) kind id all found = elim (cases_Bool (same_bytes row.0 p)) [
  | inl t ↦
      let here : ◌≡◌ {A = Option (Kind × Id)} (Some (kind, id)) (Some (row.1, row.2)) = found ∙ ap (λ b. cond b (Some (row.1, row.2)) (find_row p rows)) t in
      subst (IsHeld held Blob) (sym (ap (id_found id) here)) all.0
  | inr f ↦ found_in held p rows kind id all.1 (found ∙ ap (λ b. cond b (Some (row.1, row.2)) (find_row p rows)) f)
]

pub found_blob : (held : List Held) → IsClosed held → (tree : Id) → HasTree held tree → (p : List ℕ) (kind : Kind) (id : Id) → Some (kind, id) ≡ find_row p (tree_rows held tree) → IsHeld held Blob id
found_blob held closed tree has p kind id = found_in held p (tree_rows held tree) kind id (all_blobs held closed tree has)
