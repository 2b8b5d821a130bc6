-- What holds of every tree of a closed store, shown by one step: from the directories of a tree to the tree.
use Rattle.std.proofs.Common.{◌≡◌, ℕ, inl, inr, true, false, List, [], ◌∷◌, map, Some, None, sym, ap, subst, ◌∙◌}
use Rattle.std.proofs.lemmas.Bool.{cases_Bool}
use Rattle.std.specs.Ordering.{nat_cmp}
use Rattle.std.specs.Cmp.Lexicographic.{slice_cmp}
use Rattle.std.specs.List.{AllByRecursion}
use Rattle.std.specs.List.Sorted.{IsStrictlySortedBy}
use Rattle.eden_ids.specs.declared.id.Id.{Id}
use Rattle.eden_objects.specs.Objects.{Held}
use Rattle.eden_ids.specs.Sameness.{same_id}
use Rattle.eden_git.specs.Trees.{Entry, entries_of, is_name, key}
use Rattle.eden_objects.specs.Trees.{entries_depth, entries_reach, tree_depth, tree_reach}
use Rattle.eden_objects.specs.Commits.{Row, entries_rows, tree_rows}
use Rattle.eden_objects.specs.Puts.{type_wanted}
use Rattle.eden_objects.specs.Closed.{IsHeld, HasTree, IsTree, IsSound, IsClosed, NamesDiffer}
use Rattle.eden_objects.proofs.Closed.{find-here, find-there, fold-here, fold-there}

-- the step: what holds of the rows, the depth and the reach of each directory holds of those of the tree
abbrev pub IsStep : (List Row → ℕ → ℕ → Type 0) → Type 0
IsStep P = (rows : Id → List Row) (depth reach : Id → ℕ) (es : List Entry)
    → AllByRecursion (λ e. e.kind ≡ None → P (rows e.id) (depth e.id) (reach e.id)) es
    → IsStrictlySortedBy (slice_cmp nat_cmp) (map key es) → AllByRecursion (λ e. is_name e.name ≡ true) es → NamesDiffer es
    → P (entries_rows rows es) (entries_depth depth es) (entries_reach reach es)

abbrev pub Totals : Type 0
Totals = List Row × ℕ × ℕ

totals : List Held → Id → Totals
totals held id = (tree_rows held id, tree_depth held id, tree_reach held id)

entries_totals : List Held → List Entry → Totals
entries_totals held es = (entries_rows (tree_rows held) es, entries_depth (tree_depth held) es, entries_reach (tree_reach held) es)

totals-here : (id : Id) (top : Held) (earlier : List Held) → same_id id top.id ≡ true → totals (top ∷ earlier) id ≡ entries_totals earlier (entries_of top.payload)
unfolding totals entries_totals
totals-here id top earlier t =
    let rows : tree_rows (top ∷ earlier) id ≡ entries_rows (tree_rows earlier) (entries_of top.payload) = fold-here [] entries_rows id top earlier t in
    let depth : tree_depth (top ∷ earlier) id ≡ entries_depth (tree_depth earlier) (entries_of top.payload) = fold-here 0 entries_depth id top earlier t in
    let reach : tree_reach (top ∷ earlier) id ≡ entries_reach (tree_reach earlier) (entries_of top.payload) = fold-here 0 entries_reach id top earlier t in
    λ i. (rows i, depth i, reach i)

totals-there : (id : Id) (top : Held) (earlier : List Held) → same_id id top.id ≡ false → totals (top ∷ earlier) id ≡ totals earlier id
unfolding totals
totals-there id top earlier f =
    let rows : tree_rows (top ∷ earlier) id ≡ tree_rows earlier id = fold-there [] entries_rows id top earlier f in
    let depth : tree_depth (top ∷ earlier) id ≡ tree_depth earlier id = fold-there 0 entries_depth id top earlier f in
    let reach : tree_reach (top ∷ earlier) id ≡ tree_reach earlier id = fold-there 0 entries_reach id top earlier f in
    λ i. (rows i, depth i, reach i)

abbrev pub Of : (List Row → ℕ → ℕ → Type 0) → Totals → Type 0
Of P t = P t.0 t.1 t.2

each_dir : (P : List Row → ℕ → ℕ → Type 0) (earlier : List Held) → ((id : Id) → HasTree earlier id → P (tree_rows earlier id) (tree_depth earlier id) (tree_reach earlier id))
    → (es : List Entry) → AllByRecursion (λ e. IsHeld earlier (type_wanted e.kind) e.id) es
    → AllByRecursion (λ e. e.kind ≡ None → P (tree_rows earlier e.id) (tree_depth earlier e.id) (tree_reach earlier e.id)) es
each_dir P earlier h [] all = tt
each_dir P earlier h (e ∷ es) all = (λ dir. h e.id (subst (λ k. IsHeld earlier (type_wanted k) e.id) dir all.0), each_dir P earlier h es all.1)

pub by_trees : (P : List Row → ℕ → ℕ → Type 0) → IsStep P → (held : List Held) → IsClosed held → (id : Id) → HasTree held id
    → P (tree_rows held id) (tree_depth held id) (tree_reach held id)
unfolding totals entries_totals
by_trees P step [] closed id has = absurd (let found : None ≡ Some has.0 = has.1 in cc)
by_trees P step (top ∷ earlier) closed id has = elim (cases_Bool (same_id id top.id)) [
  | inl t ↦
      let e : Some top ≡ Some has.0 = sym (find-here id top earlier t) ∙ has.1 in
      let same : top ≡ has.0 = cc in
      let is : IsTree earlier (entries_of top.payload) = subst (λ w. IsSound w top.payload earlier) (ap (λ o. o.object_type) same ∙ has.2) closed.1 in
      let dirs = each_dir P earlier (by_trees P step earlier closed.2) (entries_of top.payload) is.0 in
      subst (Of P) (sym (totals-here id top earlier t))
      (step (tree_rows earlier) (tree_depth earlier) (tree_reach earlier) (entries_of top.payload) dirs is.1 is.2 is.5)
  | inr f ↦
      let before : HasTree earlier id = (has.0, sym (find-there id top earlier f) ∙ has.1, has.2) in
      subst (Of P) (sym (totals-there id top earlier f)) (by_trees P step earlier closed.2 id before)
]
