-- What a store has, each store has that has all of its objects.
use Rattle.std.proofs.Common.{◌≡◌, inl, inr, cond, List, [], ◌∷◌, Option, Some, None, refl, sym, ap, subst, ◌∙◌}
use Rattle.std.proofs.lemmas.Bool.{cases_Bool}
use Rattle.std.specs.FinMap as fin
use Rattle.std.specs.List.{AllByRecursion}
use Rattle.eden_ids.specs.declared.id.Id.{Id}
use Rattle.eden_ids.specs.FileMaps.{FileMap}
use Rattle.eden_ids.specs.Sameness.{same_id}
use Rattle.eden_git.specs.declared.object_type.ObjectType.TheVariants.{Blob, Tree, Commit}
use Rattle.eden_objects.specs.Objects.{Held, find, payload_of, zero_id}
use Rattle.eden_git.specs.ObjectTypes.{same_type}
use Rattle.eden_git.specs.Trees.{Entry, entries_of}
use Rattle.eden_objects.specs.Commits.{Row, commit_map, commit_rows, entries_rows, map_of_rows, rows_held, rows_named, tree_rows}
use Rattle.eden_git.specs.Commits.{tree_named}
use Rattle.eden_objects.specs.Puts.{type_wanted}
use Rattle.eden_objects.specs.Closed.{HasTree, IsClosed, IsHeld, IsSound, IsTree}
use Rattle.eden_objects.specs.Laws.{HasAll, TreesStay, CommitRowsStay, CommitMapsStay}
use Rattle.eden_objects.proofs.Closed.{AgreeOn, find-here, find-there, find_stays, fold-here, fold-there, rows_local, rows_of_tree}
use Rattle.eden_objects.proofs.Maps.{contents}
use Rattle.eden_objects.proofs.CommitLaws.{commit-tree, rows_blobs}

-- what the earlier objects have is there too
earlier_too : (top : Held) (earlier other : List Held) → IsClosed (top ∷ earlier) → HasAll (top ∷ earlier) other → HasAll earlier other
earlier_too top earlier other closed all id h found = all id h (find_stays id top earlier h closed.0 found).1

agree : (earlier other : List Held) → ((id : Id) → HasTree earlier id → tree_rows other id ≡ tree_rows earlier id) → (es : List Entry)
    → AllByRecursion (λ e. IsHeld earlier (type_wanted e.kind) e.id) es → AgreeOn (tree_rows other) (tree_rows earlier) es
agree earlier other same [] all = tt
agree earlier other same (e ∷ es) all = ((λ dir. same e.id (subst (λ k. IsHeld earlier (type_wanted k) e.id) dir all.0)), agree earlier other same es all.1)

pub trees_stay : TreesStay
trees_stay [] other closed other_closed all id has = let e : None ≡ Some has.0 = has.1 in absurd (cc)
trees_stay (top ∷ earlier) other closed other_closed all id has = elim (cases_Bool (same_id id top.id)) [
  | inl t ↦
      let here : find id (top ∷ earlier) ≡ Some top = find-here id top earlier t in
      let both : Some top ≡ Some has.0 = sym here ∙ has.1 in
      let same : has.0 ≡ top = cc in
      let object_type : top.object_type ≡ Tree = ap (λ o. o.object_type) (sym same) ∙ has.2 in
      let is : IsTree earlier (entries_of top.payload) = subst (λ w. IsSound w top.payload earlier) object_type closed.1 in
      rows_of_tree other other_closed id top (all id top here) object_type
      ∙ rows_local (tree_rows other) (tree_rows earlier) (entries_of top.payload)
      (agree earlier other (λ child child_has. trees_stay earlier other closed.2 other_closed (earlier_too top earlier other closed all) child child_has) (entries_of top.payload) is.0)
      ∙ sym (fold-here [] entries_rows id top earlier t)
  | inr f ↦
      let before : HasTree earlier id = (has.0, sym (find-there id top earlier f) ∙ has.1, has.2) in
      trees_stay earlier other closed.2 other_closed (earlier_too top earlier other closed all) id before ∙ sym (fold-there [] entries_rows id top earlier f)
]

-- the rows of a commit, by the tree that it names
found_row : (held other : List Held) → IsClosed held → IsClosed other → HasAll held other → (commit : Id) (o : Option Held) (rows : List Row) → find commit held ≡ o → rows_held held o ≡ Some rows
    → rows_held other (find commit other) ≡ Some rows
found_row held other closed other_closed all commit None rows found is = absurd (cc)
found_row held other closed other_closed all commit (Some h) rows found is =
    let tree = commit-tree held closed commit h rows found is in
    let there : rows_held other (find commit other) ≡ rows_held other (Some h) = ap (rows_held other) (all commit h found) in
    let named : rows_named other (tree_named h.payload) ≡ rows_named held (tree_named h.payload) =
    ap (rows_named other) tree.1 ∙ ap Some (trees_stay held other closed other_closed all tree.0 tree.2) ∙ sym (ap (rows_named held) tree.1) in
    there ∙ ap (λ found_rows. cond (same_type h.object_type Commit) found_rows None) named ∙ is

pub rows_stay : CommitRowsStay
rows_stay held other closed other_closed all commit rows is = elim (cases_Bool (same_id commit zero_id)) [
  | inl t ↦ ap (λ b. cond b (Some []) (rows_held other (find commit other))) t ∙ sym (ap (λ b. cond b (Some []) (rows_held held (find commit held))) t) ∙ is
  | inr f ↦
      ap (λ b. cond b (Some []) (rows_held other (find commit other))) f
      ∙ found_row held other closed other_closed all commit (find commit held) rows refl (sym (ap (λ b. cond b (Some []) (rows_held held (find commit held))) f) ∙ is)
]

-- each blob that the rows name has its bytes
same_contents : (held other : List Held) → HasAll held other → (rows : List Row) → AllByRecursion (λ row. IsHeld held Blob row.2) rows
    → contents other rows ≡ contents held rows
same_contents held other all [] blobs = refl
same_contents held other all (row ∷ rows) blobs =
    let bytes : payload_of (find row.2 other) ≡ payload_of (find row.2 held) = ap payload_of (all row.2 blobs.0.0 blobs.0.1) ∙ sym (ap payload_of blobs.0.1) in
    let rest = same_contents held other all rows blobs.1 in
    λ i. (row.0, record { kind = row.1; bytes = bytes i }) ∷ rest i

map_stays : (held other : List Held) → IsClosed held → IsClosed other → HasAll held other → (commit : Id) (o : Option (List Row)) (files : FileMap) → commit_rows held commit ≡ o
    → map_of_rows held o ≡ Some files → commit_map other commit ≡ Some files
map_stays held other closed other_closed all commit None files is map_is = absurd (cc)
map_stays held other closed other_closed all commit (Some rows) files is map_is =
    ap (map_of_rows other) (rows_stay held other closed other_closed all commit rows is)
    ∙ ap (λ es. Some (fin.from_entries es)) (same_contents held other all rows (rows_blobs held closed commit rows is)) ∙ map_is

pub maps_stay : CommitMapsStay
maps_stay held other closed other_closed all commit files is = map_stays held other closed other_closed all commit (commit_rows held commit) files refl is
