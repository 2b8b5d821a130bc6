-- What a listing makes of the names on its way are paths, since those of a commit are.
use Rattle.std.proofs.Common.{◌≡◌, ℕ, ◌++◌, Bool, true, false, cond, List, [], ◌∷◌, map, Some, None, sym, subst, ◌∙◌, append_assoc}
use Rattle.std.specs.Prelude.{filter}
use Rattle.std.specs.List.{AllByRecursion}
use Rattle.eden_ids.specs.declared.id.Id.{Id}
use Rattle.eden_ids.specs.declared.content.Kind.{Kind}
use Rattle.eden_ids.specs.Paths.{IsPath, lies_below}
use Rattle.eden_objects.specs.Objects.{Held}
use Rattle.eden_git.specs.Trees.{Entry}
use Rattle.eden_objects.specs.Commits.{Row, under, rows_of_kind, entry_rows, entries_rows, tree_rows}
use Rattle.eden_objects.specs.Closed.{HasTree, IsClosed}
use Rattle.eden_objects.specs.Listings.{ArePaths}
use Rattle.eden_objects.specs.internal.Below.{IsBelow, behind}
use Rattle.eden_objects.specs.internal.Passed.{AreAllowedBut}
use Rattle.eden_objects.proofs.Fitting.{fitting_law}

-- what holds of each path of some rows, after the bytes that are before it
module _ (P : List ℕ → Type 0) where
  abbrev pub AreAll : List ℕ → List Row → Type 0
  AreAll front rows = AllByRecursion (λ row. P (front ++ row.0)) rows

  pub both_paths : (front : List ℕ) (xs ys : List Row) → AreAll front (xs ++ ys) → AreAll front xs × AreAll front ys
  both_paths front [] ys h = (tt, h)
  both_paths front (x ∷ xs) ys h = let rest = both_paths front xs ys h.1 in ((h.0, rest.0), rest.1)

  pub inner_paths : (front name : List ℕ) (rows : List Row) → AreAll front (map (under name) rows) → AreAll (front ++ name ++ 47 ∷ []) rows
  inner_paths front name [] h = tt
  inner_paths front name (row ∷ rows) h =
      let path : front ++ (name ++ 47 ∷ row.0) ≡ (front ++ name ++ 47 ∷ []) ++ row.0 =
      sym (append_assoc front name (47 ∷ row.0)) ∙ sym (append_assoc (front ++ name) (47 ∷ []) row.0) in
      (subst P path h.0, inner_paths front name rows h.1)

  first_and_later : (front : List ℕ) (rows : Id → List Row) (e : Entry) (es all : List Entry) → all ≡ e ∷ es → AreAll front (entries_rows rows all)
      → AreAll front (entry_rows rows e) × AreAll front (entries_rows rows es)
  first_and_later front rows e es all is h = both_paths front (entry_rows rows e) (entries_rows rows es) (subst (λ (fs : List Entry). AreAll front (entries_rows rows fs)) is h)

  pub file_path : (front : List ℕ) (rows : Id → List Row) (e : Entry) (es all : List Entry) (kind : Kind) → all ≡ e ∷ es → e.kind ≡ Some kind
      → AreAll front (entries_rows rows all) → P (front ++ e.name)
  file_path front rows e es all kind is file h =
      (subst (λ k. AreAll front (rows_of_kind e.name k e.id (rows e.id))) file (first_and_later front rows e es all is h).0).0

  pub dir_paths : (front inner : List ℕ) (rows : Id → List Row) (e : Entry) (es all : List Entry) → all ≡ e ∷ es → e.kind ≡ None → inner ≡ front ++ e.name ++ 47 ∷ []
      → AreAll front (entries_rows rows all) → AreAll inner (rows e.id)
  dir_paths front inner rows e es all is dir entered h =
      subst (λ p. AreAll p (rows e.id)) (sym entered)
      (inner_paths front e.name (rows e.id) (subst (λ k. AreAll front (rows_of_kind e.name k e.id (rows e.id))) dir (first_and_later front rows e es all is h).0))

  pub later_paths : (front : List ℕ) (rows : Id → List Row) (e : Entry) (es all : List Entry) → all ≡ e ∷ es → AreAll front (entries_rows rows all) → AreAll front (entries_rows rows es)
  later_paths front rows e es all is h = (first_and_later front rows e es all is h).1

-- from the top, where no bytes are before a name
pub top_paths : (held : List Held) (tree : Id) (front : List ℕ) → IsClosed held → HasTree held tree → front ≡ [] → ArePaths front (tree_rows held tree)
top_paths held tree front closed has none = subst (λ p. ArePaths p (tree_rows held tree)) (sym none) (fitting_law held closed tree has)

kept_paths : (test : List ℕ → Bool) (rows : List Row) → ArePaths [] rows → ArePaths [] (filter (λ row. test row.0) rows)
kept_paths test [] h = tt
kept_paths test (row ∷ rows) h = elim (test row.0) as (λ b. ArePaths [] (cond b (row ∷ filter (λ r. test r.0) rows) (filter (λ r. test r.0) rows))) [
  | true ↦ (h.0, kept_paths test rows h.1)
  | false ↦ kept_paths test rows h.1
]

behind_paths : (front : List ℕ) (rows : List Row) → ArePaths [] (map (behind front) rows) → ArePaths front rows
behind_paths front [] h = tt
behind_paths front (row ∷ rows) h = (h.0, behind_paths front rows h.1)

-- below a path, after it and a slash
pub below_paths : (held : List Held) (tree : Id) (path : List ℕ) (dir : Id) → IsClosed held → HasTree held tree → IsBelow held tree path (Some dir)
    → ArePaths (path ++ 47 ∷ []) (tree_rows held dir)
below_paths held tree path dir closed has below =
    behind_paths (path ++ 47 ∷ []) (tree_rows held dir) (subst (ArePaths []) below.1 (kept_paths (λ p. lies_below p path) (tree_rows held tree) (fitting_law held closed tree has)))

-- so are those that are not passed over
pub paths_but : (passes : List ℕ → Bool) (front : List ℕ) (rows : List Row) → ArePaths front rows → AreAllowedBut IsPath passes front rows
paths_but passes front [] h = tt
paths_but passes front (row ∷ rows) h = (λ shown. h.0, paths_but passes front rows h.1)
