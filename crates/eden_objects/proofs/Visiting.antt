-- What a walk visits, entry by entry.
use Rattle.std.proofs.Common.{◌≡◌, ℕ, ◌+◌, ◌<◌, ◌≤◌, ◌++◌, Bool, true, false, not, cond, List, [], ◌∷◌, map, length, Some, None, Result, Ok, Err, refl, sym, ap, subst, ◌∙◌, arith, append_assoc, length-append}
use Rattle.std.proofs.lemmas.List.{map-append}
use Rattle.std.proofs.lemmas.List.Elements.{filter-append}
use Rattle.std.specs.Prelude.{filter}
use Rattle.std.specs.List.{AllByRecursion}
use Rattle.eden_ids.specs.declared.id.Id.{Id}
use Rattle.eden_ids.specs.declared.content.Kind.{Kind}
use Rattle.eden_ids.specs.Paths.{lies_below}
use Rattle.eden_git.specs.Trees.{Entry}
use Rattle.eden_objects.specs.Objects.{Held}
use Rattle.eden_objects.specs.Closed.{IsHeld, HasTree, IsClosed}
use Rattle.eden_objects.specs.Puts.{type_wanted}
use Rattle.eden_objects.specs.Trees.{depth_of, reach_of, entries_depth, entries_reach, tree_depth, tree_reach}
use Rattle.eden_objects.specs.Counts.{capped}
use Rattle.eden_objects.specs.Commits.{Row, under, rows_of_kind, entry_rows, entries_rows, tree_rows}
use Rattle.eden_objects.specs.internal.Below.{behind}
use Rattle.eden_objects.specs.internal.Passed.{AreAllowedBut, rows_but}
use Rattle.eden_objects.specs.internal.Visits.{IsVisit}
use Rattle.eden_objects.proofs.Closed.{greater_first, greater_second}
use Rattle.eden_objects.proofs.Gathering.{behind_below}
use Rattle.eden_objects.proofs.Legal.{both_paths, inner_paths}
use Rattle.eden_objects.proofs.WalkSteps.{depth_here, entries_in, reach_here, rows_here, tree_here}

-- ---- an entry that a walk comes to

pub record IsAhead (allows : List ℕ → Type 0) (passes : List ℕ → Bool) (front : List ℕ) (held : List Held) (tree : Id) (e : Entry) : Type 0 where
  pub is_held : IsHeld held (type_wanted e.kind) e.id
  pub below : depth_of e.kind (tree_depth held e.id) ≤ tree_depth held tree
  pub room : length front + reach_of e.name e.kind (tree_reach held e.id) ≤ 2049
  pub paths : AreAllowedBut allows passes front (entry_rows (tree_rows held) e)

module _ (allows : List ℕ → Type 0) (passes : List ℕ → Bool) (front : List ℕ) where
  each_ahead : (held : List Held) (tree : Id) (es : List Entry) → AllByRecursion (λ e. IsHeld held (type_wanted e.kind) e.id) es
      → entries_depth (tree_depth held) es ≤ tree_depth held tree → length front + entries_reach (tree_reach held) es ≤ 2049
      → AreAllowedBut allows passes front (entries_rows (tree_rows held) es) → AllByRecursion (IsAhead allows passes front held tree) es
  each_ahead held tree [] are_held below room paths = tt
  each_ahead held tree (e ∷ es) are_held below room paths =
      let deep : depth_of e.kind (tree_depth held e.id) ≤ entries_depth (tree_depth held) (e ∷ es) = greater_first _ _ in
      let deeper : entries_depth (tree_depth held) es ≤ entries_depth (tree_depth held) (e ∷ es) = greater_second _ _ in
      let far : reach_of e.name e.kind (tree_reach held e.id) ≤ entries_reach (tree_reach held) (e ∷ es) = greater_first _ _ in
      let farther : entries_reach (tree_reach held) es ≤ entries_reach (tree_reach held) (e ∷ es) = greater_second _ _ in
      let both = both_paths (λ path. passes path ≡ false → allows path) front (entry_rows (tree_rows held) e) (entries_rows (tree_rows held) es) paths in
      let first : IsAhead allows passes front held tree e =
      record {
        is_held = are_held.0;
        below = omega (arith, deep, below);
        room = omega (arith, far, room);
        paths = both.0;
      } in
      (first, each_ahead held tree es are_held.1 (omega (arith, deeper, below)) (omega (arith, farther, room)) both.1)

  pub all_ahead : (held : List Held) (tree : Id) (es : List Entry) → IsClosed held → HasTree held tree → length front + tree_reach held tree ≤ 2049
      → AreAllowedBut allows passes front (tree_rows held tree) → es ≡ entries_in held tree → AllByRecursion (IsAhead allows passes front held tree) es
  all_ahead held tree es closed has room paths is =
      let depth = depth_here held closed tree has in
      let reach = reach_here held closed tree has in
      subst (AllByRecursion (IsAhead allows passes front held tree)) (sym is)
      (each_ahead held tree (entries_in held tree) (tree_here held closed tree has).0 (omega (arith, depth)) (omega (arith, reach, room))
      (subst (AreAllowedBut allows passes front) (rows_here held closed tree has) paths))

-- ---- the files that are visited

-- what comes of the files of the entries that are left comes of all of them
abbrev pub GoesOn : {V E : Type 0} → (V → List Row → Result (Unit {0}) E → V → Type 0) → (List ℕ → Bool) → List ℕ → (Id → List Row) → V → List Row → V → List Entry → Type 0
GoesOn {V} {E} gives passes front rows old all visit es =
    (result : Result (Unit {0}) E) (new : V) → gives visit (rows_but passes front (entries_rows rows es)) result new → gives old all result new

under_behind : (front name : List ℕ) (rows : List Row) → map (behind front) (map (under name) rows) ≡ map (behind (front ++ name ++ 47 ∷ [])) rows
under_behind front name [] = refl
under_behind front name (row ∷ rows) =
    let path : front ++ (name ++ 47 ∷ row.0) ≡ (front ++ name ++ 47 ∷ []) ++ row.0 =
    sym (append_assoc front name (47 ∷ row.0)) ∙ sym (append_assoc (front ++ name) (47 ∷ []) row.0) in
    let rest = under_behind front name rows in
    λ i. (path i, row.1, row.2) ∷ rest i

-- a file, or a directory, with the bytes before the names in it
module _ (passes : List ℕ → Bool) (front : List ℕ) (rows : Id → List Row) (e : Entry) where
  pub file_rows : (kind : Kind) (path : List ℕ) → e.kind ≡ Some kind → path ≡ front ++ e.name → rows_but passes [] ((path, kind, e.id) ∷ []) ≡ rows_but passes front (entry_rows rows e)
  file_rows kind path file is =
      ap (λ p. rows_but passes [] ((p, kind, e.id) ∷ [])) is ∙ ap (λ k. rows_but passes front (rows_of_kind e.name k e.id (rows e.id))) (sym file)

  pub dir_rows : (inner : List ℕ) → e.kind ≡ None → inner ≡ front ++ e.name ++ 47 ∷ [] → rows_but passes inner (rows e.id) ≡ rows_but passes front (entry_rows rows e)
  dir_rows inner dir entered =
      ap (λ p. rows_but passes p (rows e.id)) entered
      ∙ ap (filter (λ row. not (passes row.0))) (sym (under_behind front e.name (rows e.id)))
      ∙ ap (λ k. rows_but passes front (rows_of_kind e.name k e.id (rows e.id))) (sym dir)

kept_below : (test : List ℕ → Bool) (dir : List ℕ) (rows : List Row) → AllByRecursion (λ row. lies_below row.0 dir ≡ true) rows
    → AllByRecursion (λ row. lies_below row.0 dir ≡ true) (filter (λ row. test row.0) rows)
kept_below test dir [] below = tt
kept_below test dir (row ∷ rows) below =
    elim (test row.0) as (λ b. AllByRecursion (λ r. lies_below r.0 dir ≡ true) (cond b (row ∷ filter (λ r. test r.0) rows) (filter (λ r. test r.0) rows))) [
      | true ↦ (below.0, kept_below test dir rows below.1)
      | false ↦ kept_below test dir rows below.1
    ]

pub dir_lies_below : (passes : List ℕ → Bool) (front dir : List ℕ) (rows : Id → List Row) (e : Entry) → e.kind ≡ None → dir ≡ front ++ e.name
    → AllByRecursion (λ row. lies_below row.0 dir ≡ true) (rows_but passes front (entry_rows rows e))
dir_lies_below passes front dir rows e kind is =
    subst (λ d. AllByRecursion (λ row. lies_below row.0 d ≡ true) (rows_but passes front (entry_rows rows e))) (sym is)
    (subst (AllByRecursion (λ row. lies_below row.0 (front ++ e.name) ≡ true)) (dir_rows passes front rows e (front ++ e.name ++ 47 ∷ []) kind refl)
    (kept_below (λ path. not (passes path)) (front ++ e.name) (map (behind (front ++ e.name ++ 47 ∷ [])) (rows e.id)) (behind_below (front ++ e.name) (rows e.id))))

-- one entry more
module _ {V E : Type 0} (gives : V → List Row → Result (Unit {0}) E → V → Type 0) (laws : IsVisit gives) (passes : List ℕ → Bool) (front : List ℕ) (rows : Id → List Row)
    (old : V) (all : List Row) (visit new : V) (e : Entry) (es ahead : List Entry) (is : ahead ≡ e ∷ es) (goes_on : GoesOn gives passes front rows old all visit ahead) where
  with_later : (result : Result (Unit {0}) E) (after : V) → gives visit (rows_but passes front (entry_rows rows e) ++ rows_but passes front (entries_rows rows es)) result after → gives old all result after
  with_later result after both =
      let parted : rows_but passes front (entries_rows rows ahead) ≡ rows_but passes front (entry_rows rows e) ++ rows_but passes front (entries_rows rows es) =
      ap (λ fs. rows_but passes front (entries_rows rows fs)) is
      ∙ ap (filter (λ row. not (passes row.0))) (map-append (behind front) (entry_rows rows e) (entries_rows rows es))
      ∙ filter-append (λ row. not (passes row.0)) (map (behind front) (entry_rows rows e)) (map (behind front) (entries_rows rows es)) in
      goes_on result after (subst (λ found. gives visit found result after) (sym parted) both)

  pub one_more : gives visit (rows_but passes front (entry_rows rows e)) (Ok tt) new → GoesOn gives passes front rows old all new es
  one_more one = λ result after later. with_later result after (laws.goes_on visit new after (rows_but passes front (entry_rows rows e)) (rows_but passes front (entries_rows rows es)) result one later)

  pub ended : (stop : E) → gives visit (rows_but passes front (entry_rows rows e)) (Err stop) new → gives old all (Err stop) new
  ended stop one = with_later (Err stop) new (laws.stopped visit new (rows_but passes front (entry_rows rows e)) (rows_but passes front (entries_rows rows es)) stop one)

-- ---- a directory that is not read

pub no_files : (passes : List ℕ → Bool) (front : List ℕ) (rows : List Row) (files : ℕ) → files ≡ capped (length rows) → files ≡ 0 → rows_but passes front rows ≡ []
no_files passes front [] files counted none = refl
no_files passes front (row ∷ rows) files counted none = absurd (omega (arith, counted, none))

-- ---- a directory that is entered

module _ (allows : List ℕ → Type 0) (passes : List ℕ → Bool) (front inner : List ℕ) (held : List Held) (tree : Id) (e : Entry) (ahead : IsAhead allows passes front held tree e) (dir : e.kind ≡ None)
    (entered : inner ≡ front ++ e.name ++ 47 ∷ []) where
  pub dir_ahead : HasTree held e.id × (tree_depth held e.id < tree_depth held tree) × (length inner + tree_reach held e.id ≤ 2049) × AreAllowedBut allows passes inner (tree_rows held e.id)
  dir_ahead =
      let deep : depth_of None (tree_depth held e.id) ≤ tree_depth held tree = subst (λ k. depth_of k (tree_depth held e.id) ≤ tree_depth held tree) dir ahead.below in
      let far : length front + reach_of e.name None (tree_reach held e.id) ≤ 2049 = subst (λ k. length front + reach_of e.name k (tree_reach held e.id) ≤ 2049) dir ahead.room in
      let long : length inner ≡ length (front ++ e.name) + 1 = ap length entered ∙ length-append (front ++ e.name) (47 ∷ []) in
      let longer : length (front ++ e.name) ≡ length front + length e.name = length-append front e.name in (
        subst (λ k. IsHeld held (type_wanted k) e.id) dir ahead.is_held,
        omega (arith, deep),
        omega (arith, far, long, longer),
        subst (λ p. AreAllowedBut allows passes p (tree_rows held e.id)) (sym entered)
            (inner_paths (λ path. passes path ≡ false → allows path) front e.name (tree_rows held e.id)
            (subst (λ k. AreAllowedBut allows passes front (rows_of_kind e.name k e.id (tree_rows held e.id))) dir ahead.paths)),
      )
