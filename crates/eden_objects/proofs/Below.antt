-- The files of a tree below a path are those of the directory that the path leads to.
use Rattle.std.proofs.Common.{◌≡◌, ℕ, ◌++◌, Bool, true, false, cond, ◌&&◌, List, [], ◌∷◌, map, Option, Some, None, refl, sym, ap, ◌∙◌, append_assoc}
use Rattle.std.proofs.lemmas.Slice.Eq.{bytes_eq-Decides}
use Rattle.std.proofs.lemmas.List.Elements.{filter-append}
use Rattle.std.specs.Prelude.{filter}
use Rattle.std.specs.List.{AllByRecursion}
use Rattle.std.proofs.Math.Bool.{and_comm}
use Rattle.eden_ids.specs.declared.id.Id.{Id}
use Rattle.eden_ids.specs.declared.content.Kind.{Kind}
use Rattle.eden_ids.specs.Paths.{lies_below}
use Rattle.eden_objects.specs.Objects.{Held}
use Rattle.eden_ids.specs.Sameness.{same_bytes}
use Rattle.eden_git.specs.Trees.{Entry, cut}
use Rattle.eden_objects.specs.Commits.{Row, under, rows_of_kind, entry_rows, entries_rows, tree_rows}
use Rattle.eden_objects.specs.Closed.{HasTree, IsClosed, NamesDiffer}
use Rattle.eden_git.specs.Directories.{or_later, dir_if, dir_named}
use Rattle.eden_objects.specs.internal.Below.{behind, then_rows, rows_below, IsBelow}
use Rattle.eden_git.proofs.Slashes.{has_slash, name_has_none, cut_none, cut_some, name_not_below, below_name, below_under}
use Rattle.eden_objects.proofs.Lookup.{AllNames, turn, apart_from}
use Rattle.eden_objects.proofs.WalkSteps.{entries_in, tree_here, rows_here, child_here}

append_none : (rows : List Row) → rows ++ [] ≡ rows
append_none [] = refl
append_none (row ∷ rows) = ap (λ (more : List Row). row ∷ more) (append_none rows)

pub behind_behind : (a b : List ℕ) (rows : List Row) → map (behind a) (map (behind b) rows) ≡ map (behind (a ++ b)) rows
behind_behind a b [] = refl
behind_behind a b (row ∷ rows) =
    let path : a ++ (b ++ row.0) ≡ (a ++ b) ++ row.0 = sym (append_assoc a b row.0) in
    let rest = behind_behind a b rows in
    λ i. (path i, row.1, row.2) ∷ rest i

under_is : (n : List ℕ) (rows : List Row) → map (under n) rows ≡ map (behind (n ++ 47 ∷ [])) rows
under_is n [] = refl
under_is n (row ∷ rows) =
    let path : n ++ 47 ∷ row.0 ≡ (n ++ 47 ∷ []) ++ row.0 = sym (append_assoc n (47 ∷ []) row.0) in
    let rest = under_is n rows in
    λ i. (path i, row.1, row.2) ∷ rest i

-- a test of paths below a name c, by a test of what follows it
module _ (rows : Id → List Row) (test inner : List ℕ → Bool) (c : List ℕ) (at_name : (n : List ℕ) → has_slash n ≡ false → test n ≡ false)
    (at_under : (n q : List ℕ) → has_slash n ≡ false → test (n ++ 47 ∷ q) ≡ (same_bytes n c && inner q)) where
  abbrev pub kept : List Row → List Row
  kept found = filter (λ row. test row.0) found

  abbrev pub inner_rows : Option Id → List Row
  inner_rows dir = map (behind (c ++ 47 ∷ [])) (filter (λ row. inner row.0) (then_rows rows dir))

  kept_cond : (t : Bool) (row : Row) (n : List ℕ) (found : List Row) → cond t (under n row ∷ map (under n) found) (map (under n) found) ≡ map (under n) (cond t (row ∷ found) found)
  kept_cond true row n found = refl
  kept_cond false row n found = refl

  under_kept : (n : List ℕ) (found : List Row) → has_slash n ≡ false → same_bytes n c ≡ true → kept (map (under n) found) ≡ map (under n) (filter (λ row. inner row.0) found)
  under_kept n [] free t = refl
  under_kept n (row ∷ found) free t =
      let here : test (n ++ 47 ∷ row.0) ≡ inner row.0 = at_under n row.0 free ∙ ap (λ b. b && inner row.0) t in
      let rest = under_kept n found free t in
      (λ i. cond (here i) (under n row ∷ rest i) (rest i)) ∙ kept_cond (inner row.0) row n (filter (λ row. inner row.0) found)

  under_left : (n : List ℕ) (found : List Row) → has_slash n ≡ false → same_bytes n c ≡ false → kept (map (under n) found) ≡ []
  under_left n [] free f = refl
  under_left n (row ∷ found) free f =
      let here : test (n ++ 47 ∷ row.0) ≡ false = at_under n row.0 free ∙ ap (λ b. b && inner row.0) f in
      ap (λ b. cond b (under n row ∷ kept (map (under n) found)) (kept (map (under n) found))) here ∙ under_left n found free f

  entry_kept : (n : List ℕ) (kind : Option Kind) (id : Id) (t : Bool) → has_slash n ≡ false → same_bytes n c ≡ t → kept (rows_of_kind n kind id (rows id)) ≡ inner_rows (dir_if kind id t)
  entry_kept n None id true free is =
      under_kept n (rows id) free is ∙ under_is n (filter (λ row. inner row.0) (rows id))
      ∙ ap (λ name. map (behind (name ++ 47 ∷ [])) (filter (λ row. inner row.0) (rows id))) ((bytes_eq-Decides n c).0 is)
  entry_kept n None id false free is = under_left n (rows id) free is
  entry_kept n (Some kind) id t free is = ap (λ b. cond b ((n, kind, id) ∷ []) []) (at_name n free)

  none_of : (kind : Option Kind) (id : Id) → inner_rows (dir_if kind id false) ≡ []
  none_of None id = refl
  none_of (Some kind) id = refl

  none_kept : (es : List Entry) → AllNames es → AllByRecursion (λ f. same_bytes c f.name ≡ false) es → kept (entries_rows rows es) ≡ []
  none_kept [] names apart = refl
  none_kept (e ∷ es) names apart =
      let first : kept (entry_rows rows e) ≡ [] =
      entry_kept e.name e.kind e.id false (name_has_none e.name names.0) (turn e.name c ∙ apart.0) ∙ none_of e.kind e.id in
      let rest = none_kept es names.1 apart.1 in
      filter-append (λ row. test row.0) (entry_rows rows e) (entries_rows rows es) ∙ (λ i. first i ++ rest i)

  joined : (kind : Option Kind) (id : Id) (t : Bool) (later : Option Id) (rest : List Row) → rest ≡ inner_rows later → (t ≡ true → rest ≡ [])
      → inner_rows (dir_if kind id t) ++ rest ≡ inner_rows (or_later (dir_if kind id t) later)
  joined None id true later rest is none = ap (λ more. inner_rows (Some id) ++ more) (none refl) ∙ append_none (inner_rows (Some id))
  joined None id false later rest is none = is
  joined (Some kind) id t later rest is none = is

  pub by_name : (es : List Entry) → AllNames es → NamesDiffer es → kept (entries_rows rows es) ≡ inner_rows (dir_named c es)
  by_name [] names differ = refl
  by_name (e ∷ es) names differ =
      let first = entry_kept e.name e.kind e.id (same_bytes e.name c) (name_has_none e.name names.0) refl in
      filter-append (λ row. test row.0) (entry_rows rows e) (entries_rows rows es)
      ∙ ap (λ found. found ++ kept (entries_rows rows es)) first
      ∙ joined e.kind e.id (same_bytes e.name c) (dir_named c es) (kept (entries_rows rows es)) (by_name es names.1 differ.1)
      (λ t. none_kept es names.1 (apart_from e.name c es ((bytes_eq-Decides e.name c).0 t) differ.0))

all_kept : (rows : List Row) → filter (λ row. true) rows ≡ rows
all_kept [] = refl
all_kept (row ∷ rows) = ap (λ (more : List Row). row ∷ more) (all_kept rows)

-- below a name are the files of its directory
below_here : (held : List Held) (id : Id) (p : List ℕ) → IsClosed held → HasTree held id → None ≡ cut 47 p
    → rows_below held id p ≡ map (behind (p ++ 47 ∷ [])) (then_rows (tree_rows held) (dir_named p (entries_in held id)))
below_here held id p closed has none =
    let is = tree_here held closed id has in
    let free : has_slash p ≡ false = cut_none p (sym none) in
    ap (filter (λ row. lies_below row.0 p)) (rows_here held closed id has)
    ∙ by_name (tree_rows held) (λ q. lies_below q p) (λ q. true) p (λ n slashless. name_not_below n p slashless)
    (λ n q slashless. below_name n p q slashless free ∙ sym (and_comm (same_bytes n p) true)) (entries_in held id) is.2 is.5
    ∙ ap (map (behind (p ++ 47 ∷ []))) (all_kept (then_rows (tree_rows held) (dir_named p (entries_in held id))))

-- below a path with a slash are the files that are below what follows it in the directory that it begins with
below_there : (held : List Held) (id : Id) (p c r : List ℕ) → IsClosed held → HasTree held id → Some (c, r) ≡ cut 47 p
    → rows_below held id p ≡ map (behind (c ++ 47 ∷ [])) (filter (λ row. lies_below row.0 r) (then_rows (tree_rows held) (dir_named c (entries_in held id))))
below_there held id p c r closed has some =
    let is = tree_here held closed id has in
    let parts = cut_some p c r (sym some) in
    ap (λ q. filter (λ row. lies_below row.0 q) (tree_rows held id)) parts.0
    ∙ ap (filter (λ row. lies_below row.0 (c ++ 47 ∷ r))) (rows_here held closed id has)
    ∙ by_name (tree_rows held) (λ q. lies_below q (c ++ 47 ∷ r)) (λ q. lies_below q r) c (λ n slashless. name_not_below n (c ++ 47 ∷ r) slashless)
    (λ n q slashless. below_under n c q r slashless parts.1) (entries_in held id) is.2 is.5

-- how far a walk to a directory has come
abbrev pub IsOnTheWay : List Held → Id → List ℕ → Id → List ℕ → Type 0
IsOnTheWay held tree path dir rest =
    HasTree held dir × ((front : List ℕ) × (path ≡ front ++ rest) × (rows_below held tree path ≡ map (behind front) (rows_below held dir rest)))

behind_none : (path : List ℕ) (rows : List Row) → map (behind []) rows ≡ rows
behind_none path [] = refl
behind_none path (row ∷ rows) = ap (λ (more : List Row). row ∷ more) (behind_none path rows)

pub at_start : (held : List Held) (tree : Id) (path : List ℕ) → HasTree held tree → IsOnTheWay held tree path tree path
at_start held tree path has = (has, ([], refl, sym (behind_none path (rows_below held tree path))))

pub at_end : (held : List Held) (tree dir : Id) (path rest : List ℕ) (found : Option Id) → IsClosed held → IsOnTheWay held tree path dir rest → None ≡ cut 47 rest
    → found ≡ dir_named rest (entries_in held dir) → IsBelow held tree path found
at_end held tree dir path rest None closed way none is =
    way.1.2 ∙ ap (map (behind way.1.0)) (below_here held dir rest closed way.0 none ∙ ap (λ o. map (behind (rest ++ 47 ∷ [])) (then_rows (tree_rows held) o)) (sym is))
at_end held tree dir path rest (Some child) closed way none is =
    let front : List ℕ = way.1.0 in
    let whole : front ++ (rest ++ 47 ∷ []) ≡ path ++ 47 ∷ [] = sym (append_assoc front rest (47 ∷ [])) ∙ ap (λ (p : List ℕ). p ++ 47 ∷ []) (sym way.1.1) in (
      child_here held dir rest child closed way.0 is,
      way.1.2 ∙ ap (map (behind front)) (below_here held dir rest closed way.0 none ∙ ap (λ o. map (behind (rest ++ 47 ∷ [])) (then_rows (tree_rows held) o)) (sym is))
          ∙ behind_behind front (rest ++ 47 ∷ []) (tree_rows held child) ∙ ap (λ p. map (behind p) (tree_rows held child)) whole,
    )

pub at_stop : (held : List Held) (tree dir : Id) (path rest c r : List ℕ) → IsClosed held → IsOnTheWay held tree path dir rest → Some (c, r) ≡ cut 47 rest
    → None ≡ dir_named c (entries_in held dir) → IsBelow held tree path None
at_stop held tree dir path rest c r closed way some is =
    way.1.2
    ∙ ap (map (behind way.1.0))
    (below_there held dir rest c r closed way.0 some ∙ ap (λ o. map (behind (c ++ 47 ∷ [])) (filter (λ row. lies_below row.0 r) (then_rows (tree_rows held) o))) (sym is))

pub at_step : (held : List Held) (tree dir child : Id) (path rest c r : List ℕ) → IsClosed held → IsOnTheWay held tree path dir rest → Some (c, r) ≡ cut 47 rest
    → Some child ≡ dir_named c (entries_in held dir) → IsOnTheWay held tree path child r
at_step held tree dir child path rest c r closed way some is =
    let front : List ℕ = way.1.0 in
    let parts = cut_some rest c r (sym some) in
    let whole : path ≡ (front ++ (c ++ 47 ∷ [])) ++ r =
    way.1.1 ∙ ap (λ p. front ++ p) (parts.0 ∙ sym (append_assoc c (47 ∷ []) r)) ∙ sym (append_assoc front (c ++ 47 ∷ []) r) in (
      child_here held dir c child closed way.0 is,
      (
        front ++ (c ++ 47 ∷ []),
        whole,
        way.1.2
            ∙ ap (map (behind front))
            (below_there held dir rest c r closed way.0 some ∙ ap (λ o. map (behind (c ++ 47 ∷ [])) (filter (λ row. lies_below row.0 r) (then_rows (tree_rows held) o))) (sym is))
            ∙ behind_behind front (c ++ 47 ∷ []) (rows_below held child r),
      ),
    )
