-- The paths of a tree are paths: they are made of the names of entries, and are no longer than the tree's depth and reach say.
use Rattle.std.proofs.Common.{◌≡◌, ℕ, ◌+◌, ◌<◌, ◌≤◌, ◌++◌, ◌==◌, true, false, cond, ◌&&◌, ltb, List, [], ◌∷◌, map, length, Option, Some, None, refl, sym, ap, subst, ◌∙◌, arith, length-append}
use Rattle.std.proofs.lemmas.Bool.{and_parts, or_parts, ltb-true, le-ltb, ne_eqb}
use Rattle.std.specs.List.{AllByRecursion, onto_first, list_all}
use Rattle.std.specs.List.Sorted.{IsStrictlySortedBy}
use Rattle.eden_ids.specs.declared.id.Id.{Id}
use Rattle.eden_ids.specs.declared.content.Kind.{Kind}
use Rattle.eden_ids.specs.Paths.{components, is_component, path_fault}
use Rattle.eden_objects.specs.Objects.{Held}
use Rattle.eden_git.specs.Trees.{is_name}
use Rattle.eden_objects.specs.Trees.{depth_of, reach_of, entries_depth, entries_reach, tree_depth, tree_reach}
use Rattle.eden_objects.specs.Commits.{Row, under, rows_of_kind, entry_rows, entries_rows, tree_rows}
use Rattle.eden_objects.specs.Closed.{HasTree, IsClosed}
use Rattle.eden_git.proofs.Slashes.{has_slash, name_has_none}
use Rattle.eden_objects.proofs.Closed.{greater_first, greater_second}
use Rattle.eden_objects.proofs.ByTrees.{IsStep, by_trees}
use Rattle.eden_objects.proofs.WalkSteps.{depth_here, reach_here, tree_here}

abbrev pub Fits : ℕ → ℕ → Row → Type 0
Fits depth reach row =
    (0 < length row.0) × (length row.0 ≤ reach) × (list_all is_component (components row.0) ≡ true) × (length (components row.0) ≤ depth)

abbrev pub AllFit : List Row → ℕ → ℕ → Type 0
AllFit rows depth reach = AllByRecursion (λ row. Fits depth reach row) rows

pub components_name : (n : List ℕ) → has_slash n ≡ false → components n ≡ n ∷ []
components_name [] free = refl
components_name (x ∷ n) free =
    ap (λ b. cond b ([] ∷ components n) (onto_first x (components n))) (or_parts _ _ free).0 ∙ ap (onto_first x) (components_name n (or_parts _ _ free).1)

pub components_under : (n q : List ℕ) → has_slash n ≡ false → components (n ++ 47 ∷ q) ≡ n ∷ components q
components_under [] q free = refl
components_under (x ∷ n) q free =
    ap (λ b. cond b ([] ∷ components (n ++ 47 ∷ q)) (onto_first x (components (n ++ 47 ∷ q)))) (or_parts _ _ free).0
    ∙ ap (onto_first x) (components_under n q (or_parts _ _ free).1)

-- a name is a component, and not empty
name_fits : (n : List ℕ) → is_name n ≡ true → (is_component n ≡ true) × (0 < length n)
name_fits n h =
    let is : is_component n ≡ true = (and_parts _ _ h).0 in
    (is, ltb-true 0 (length n) (and_parts _ _ (and_parts _ _ (and_parts _ _ (and_parts _ _ is).0).0).0).0)

file_fits : (n : List ℕ) (kind : Kind) (id : Id) → is_name n ≡ true → Fits 1 (length n) (n, kind, id)
file_fits n kind id h =
    let parts = components_name n (name_has_none n h) in
    let name = name_fits n h in
    (name.1, omega arith, ap (list_all is_component) parts ∙ ap (λ b. b && true) name.0, (let one : length (components n) ≡ 1 = ap length parts in omega (arith, one)))

row_fits : (n : List ℕ) (row : Row) (depth reach : ℕ) → is_name n ≡ true → Fits depth reach row → Fits (1 + depth) (length n + 1 + reach) (under n row)
row_fits n row depth reach h fits =
    let parts = components_under n row.0 (name_has_none n h) in
    let name = name_fits n h in
    let long : length (n ++ 47 ∷ row.0) ≡ length n + length (47 ∷ row.0) = length-append n (47 ∷ row.0) in
    let more : length (47 ∷ row.0) ≡ length row.0 + 1 = omega arith in
    let within : length row.0 ≤ reach = fits.1 in
    let deep : length (components row.0) ≤ depth = fits.3 in
    let count : length (components (n ++ 47 ∷ row.0)) ≡ length (n ∷ components row.0) = ap length parts in
    let next : length (n ∷ components row.0) ≡ length (components row.0) + 1 = omega arith in (
      omega (arith, long, more),
      omega (arith, long, more, within),
      ap (list_all is_component) parts ∙ ap (λ b. b && list_all is_component (components row.0)) name.0 ∙ fits.2,
      omega (arith, count, next, deep),
    )

wider : (d e r s : ℕ) → d ≤ e → r ≤ s → (rows : List Row) → AllFit rows d r → AllFit rows e s
wider d e r s de rs [] all = tt
wider d e r s de rs (row ∷ rows) all =
    let long : length row.0 ≤ r = all.0.1 in
    let deep : length (components row.0) ≤ d = all.0.3 in
    ((all.0.0, omega (arith, long, rs), all.0.2, omega (arith, deep, de)), wider d e r s de rs rows all.1)

both_fit : (xs ys : List Row) (d r : ℕ) → AllFit xs d r → AllFit ys d r → AllFit (xs ++ ys) d r
both_fit [] ys d r h g = g
both_fit (x ∷ xs) ys d r h g = (h.0, both_fit xs ys d r h.1 g)

under_fits : (n : List ℕ) (rows : List Row) (depth reach : ℕ) → is_name n ≡ true → AllFit rows depth reach → AllFit (map (under n) rows) (1 + depth) (length n + 1 + reach)
under_fits n [] depth reach h all = tt
under_fits n (row ∷ rows) depth reach h all = (row_fits n row depth reach h all.0, under_fits n rows depth reach h all.1)

entry_fits : (n : List ℕ) (kind : Option Kind) (id : Id) (rows : List Row) (depth reach : ℕ) → is_name n ≡ true → (kind ≡ None → AllFit rows depth reach)
    → AllFit (rows_of_kind n kind id rows) (depth_of kind depth) (reach_of n kind reach)
entry_fits n None id rows depth reach h dir = under_fits n rows depth reach h (dir refl)
entry_fits n (Some kind) id rows depth reach h dir = (file_fits n kind id h, tt)

fitting_step : IsStep AllFit
unfolding IsStrictlySortedBy
fitting_step rows depth reach [] dirs keys names differ = tt
fitting_step rows depth reach (e ∷ es) dirs keys names differ =
    let deep : ℕ = depth_of e.kind (depth e.id) in
    let long : ℕ = reach_of e.name e.kind (reach e.id) in
    both_fit (entry_rows rows e) (entries_rows rows es) (entries_depth depth (e ∷ es)) (entries_reach reach (e ∷ es))
    (wider deep _ long _ (greater_first deep (entries_depth depth es)) (greater_first long (entries_reach reach es)) (entry_rows rows e)
    (entry_fits e.name e.kind e.id (rows e.id) (depth e.id) (reach e.id) names.0 dirs.0))
    (wider (entries_depth depth es) _ (entries_reach reach es) _ (greater_second deep (entries_depth depth es)) (greater_second long (entries_reach reach es)) (entries_rows rows es)
    (fitting_step rows depth reach es dirs.1 keys.1 names.1 differ.1))

pub fitting : (held : List Held) → IsClosed held → (id : Id) → HasTree held id → AllFit (tree_rows held id) (tree_depth held id) (tree_reach held id)
fitting = by_trees AllFit fitting_step

-- a tree of a store is not too deep, and its paths are not too long
pub limits : (held : List Held) → IsClosed held → (id : Id) → HasTree held id → (tree_depth held id ≤ 64) × (tree_reach held id ≤ 1024)
limits held closed id has =
    let is = tree_here held closed id has in
    (subst (λ n. n ≤ 64) (sym (depth_here held closed id has)) is.3, subst (λ n. n ≤ 1024) (sym (reach_here held closed id has)) is.4)

pub no_fault : (p : List ℕ) → 0 < length p → length p ≤ 1024 → list_all is_component (components p) ≡ true → length (components p) ≤ 64 → path_fault p ≡ None
no_fault p some short names shallow =
    let a : (length p == 0) ≡ false = ne_eqb (length p) 0 (λ e. absurd (omega (arith, e, some))) in
    let b : ltb 1024 (length p) ≡ false = le-ltb 1024 (length p) short in
    let c : ltb 64 (length (components p)) ≡ false = le-ltb 64 (length (components p)) shallow in
    rw (a, b, names, c) refl

each_legal : (rows : List Row) (depth reach : ℕ) → depth ≤ 64 → reach ≤ 1024 → AllFit rows depth reach → AllByRecursion (λ row. path_fault row.0 ≡ None) rows
each_legal [] depth reach shallow short all = tt
each_legal (row ∷ rows) depth reach shallow short all =
    let long : length row.0 ≤ reach = all.0.1 in
    let deep : length (components row.0) ≤ depth = all.0.3 in
    (no_fault row.0 all.0.0 (omega (arith, long, short)) all.0.2 (omega (arith, deep, shallow)), each_legal rows depth reach shallow short all.1)

pub fitting_law : (held : List Held) → IsClosed held → (id : Id) → HasTree held id → AllByRecursion (λ row. path_fault row.0 ≡ None) (tree_rows held id)
fitting_law held closed id has =
    let within = limits held closed id has in
    each_legal (tree_rows held id) (tree_depth held id) (tree_reach held id) within.0 within.1 (fitting held closed id has)
