-- A search for a file that is not passed over, entry by entry, and files that are shown as though their directory were at another place.
use Rattle.std.proofs.Common.{◌≡◌, ℕ, ◌++◌, Bool, true, false, not, ◌&&◌, ◌||◌, cond, List, [], ◌∷◌, drop, map, length, Option, Some, None, Result, Ok, Err, is_some, refl, sym, ap, subst, ◌∙◌, arith, append_assoc, append-nil}
use Rattle.std.proofs.Math.Seq.{drop-append_seam}
use Rattle.std.proofs.lemmas.Slice.Eq.{bytes_eq-Decides}
use Rattle.std.specs.Prelude.{IfOk, filter}
use Rattle.std.specs.List.{AllByRecursion, list_any}
use Rattle.eden_ids.specs.declared.id.Id.{Id}
use Rattle.eden_ids.specs.FileMaps.{FileMap, file_at, paths}
use Rattle.eden_ids.specs.Paths.{IsPath, lies_below}
use Rattle.eden_ids.specs.Sameness.{same_bytes}
use Rattle.eden_objects.specs.Objects.{Held}
use Rattle.eden_objects.specs.declared.outline.Outline.{Outline}
use Rattle.eden_objects.specs.declared.size.Size.{Size}
use Rattle.eden_objects.specs.Trees.{tree_depth}
use Rattle.eden_objects.specs.Commits.{Row, find_row, tree_rows}
use Rattle.eden_objects.specs.Closed.{HasTree, IsClosed}
use Rattle.eden_objects.specs.Files.{IsTreeIn, files_at, rows_at}
use Rattle.eden_objects.specs.Passing.{IsWithin, TellsPaths, told}
use Rattle.eden_objects.specs.internal.Below.{IsBelow, behind, rows_behind, rows_below}
use Rattle.eden_objects.specs.internal.Kept.{TellsTree}
use Rattle.eden_objects.specs.internal.Passed.{AreAllowedBut, AreToldPaths, any_but, retold, rows_but, rows_shown}
use Rattle.eden_objects.proofs.FilesOf.{rises}
use Rattle.eden_objects.proofs.Fitting.{AllFit, fitting}
use Rattle.eden_objects.proofs.Maps.{file_at-map_of, is_found, paths-map_of}

-- A directory of which all is passed over.

all_within : (passes : List ℕ → Bool) (front : List ℕ) (size : Size) (rows : List Row) → AllFit rows size.depth size.reach
    → ((rest : List ℕ) → IsWithin size rest → passes (front ++ rest) ≡ true) → rows_but passes front rows ≡ []
all_within passes front size [] fit all = refl
all_within passes front size (row ∷ rows) fit all =
    ap (λ b. cond (not b) (behind front row ∷ rows_but passes front rows) (rows_but passes front rows)) (all row.0 (fit.0.1, fit.0.2, fit.0.3))
    ∙ all_within passes front size rows fit.1 all

pub all_passed : (passes : List ℕ → Bool) (front : List ℕ) (held : List Held) (id : Id) (outline : Outline) → IsClosed held → HasTree held id → TellsTree held id outline
    → ((rest : List ℕ) → IsWithin outline.size rest → passes (front ++ rest) ≡ true) → rows_but passes front (tree_rows held id) ≡ []
all_passed passes front held id outline closed has tells all =
    all_within passes front outline.size (tree_rows held id)
    (subst (λ depth. AllFit (tree_rows held id) depth outline.size.reach) (sym tells.0)
    (subst (AllFit (tree_rows held id) (tree_depth held id)) (sym tells.1) (fitting held closed id has)))
    all

-- A search of which nothing is left.

pub any_left : (passes : List ℕ → Bool) (front : List ℕ) (rows : List Row) → list_any (λ (row : Row). true) (rows_but passes front rows) ≡ any_but passes front rows
any_left passes front [] = refl
any_left passes front (row ∷ rows) =
    elim (not (passes (front ++ row.0)))
    as (λ b. list_any (λ (r : Row). true) (cond b (behind front row ∷ rows_but passes front rows) (rows_but passes front rows)) ≡ (b || any_but passes front rows)) [
      | true ↦ refl
      | false ↦ any_left passes front rows
    ]

-- a search may be asked of every path
pub all_allowed : (passes : List ℕ → Bool) (front : List ℕ) (rows : List Row) → AreAllowedBut (λ path. Unit {0}) passes front rows
all_allowed passes front [] = tt
all_allowed passes front (row ∷ rows) = (λ shown. tt, all_allowed passes front rows)

-- Below a directory that is shown at another place.

told_behind : (top seen rest : List ℕ) → told top seen ((top ++ 47 ∷ []) ++ rest) ≡ (seen ++ 47 ∷ []) ++ rest
told_behind top seen rest =
    ap (λ p. seen ++ drop (length top) p) (append_assoc top (47 ∷ []) rest)
    ∙ ap (λ p. seen ++ p) (drop-append_seam top (47 ∷ rest))
    ∙ sym (append_assoc seen (47 ∷ []) rest)

any_below : (test : List ℕ → Bool) (top : List ℕ) (rows : List Row)
    → list_any (λ row. lies_below row.0 top && test row.0) rows ≡ list_any (λ row. test row.0) (filter (λ row. lies_below row.0 top) rows)
any_below test top [] = refl
any_below test top (row ∷ rows) =
    elim (lies_below row.0 top) as (λ b. ((b && test row.0) || list_any (λ r. lies_below r.0 top && test r.0) rows) ≡ list_any (λ r. test r.0) (cond b (row ∷ filter (λ r. lies_below r.0 top) rows) (filter (λ r. lies_below r.0 top) rows))) [
      | true ↦ ap (λ b. test row.0 || b) (any_below test top rows)
      | false ↦ any_below test top rows
    ]

any_told : (passes : List ℕ → Bool) (top seen : List ℕ) (rows : List Row)
    → list_any (λ row. not (passes (told top seen row.0))) (map (behind (top ++ 47 ∷ [])) rows) ≡ any_but passes (seen ++ 47 ∷ []) rows
any_told passes top seen [] = refl
any_told passes top seen (row ∷ rows) =
    let path = told_behind top seen row.0 in
    let rest = any_told passes top seen rows in
    λ i. not (passes (path i)) || rest i

pub none_found : (passes : List ℕ → Bool) (held : List Held) (tree : Id) (top seen : List ℕ) → IsBelow held tree top None
    → false ≡ list_any (λ row. lies_below row.0 top && not (passes (told top seen row.0))) (tree_rows held tree)
none_found passes held tree top seen none =
    sym (any_below (λ p. not (passes (told top seen p))) top (tree_rows held tree) ∙ ap (list_any (λ row. not (passes (told top seen row.0)))) none)

pub found_below : (passes : List ℕ → Bool) (held : List Held) (tree : Id) (top seen : List ℕ) (dir : Id) → IsBelow held tree top (Some dir)
    → any_but passes (seen ++ 47 ∷ []) (tree_rows held dir) ≡ list_any (λ row. lies_below row.0 top && not (passes (told top seen row.0))) (tree_rows held tree)
found_below passes held tree top seen dir below =
    sym
    (any_below (λ p. not (passes (told top seen p))) top (tree_rows held tree)
    ∙ ap (list_any (λ row. not (passes (told top seen row.0)))) below.1
    ∙ any_told passes top seen (tree_rows held dir))

retold_behind : (top seen : List ℕ) (rows : List Row) → map (retold top seen) (map (behind (top ++ 47 ∷ [])) rows) ≡ map (behind (seen ++ 47 ∷ [])) rows
retold_behind top seen [] = refl
retold_behind top seen (row ∷ rows) =
    let path = told_behind top seen row.0 in
    let rest = retold_behind top seen rows in
    λ i. (path i, row.1, row.2) ∷ rest i

pub shown_below : (shows : List ℕ → Bool) (held : List Held) (tree : Id) (top seen : List ℕ) (dir : Id) → IsBelow held tree top (Some dir)
    → rows_shown shows top seen (rows_below held tree top) ≡ rows_behind shows (seen ++ 47 ∷ []) (tree_rows held dir)
shown_below shows held tree top seen dir below =
    ap (rows_shown shows top seen) below.1 ∙ ap (filter (λ row. shows row.0)) (retold_behind top seen (tree_rows held dir))

-- What is not passed over is given by paths.
module _ (P : List ℕ → Type 0) where
  kept_one : (top : List ℕ) (b : Bool) (row : Row) (rest : List Row) → (b ≡ true → P row.0) → AllByRecursion (λ r. P r.0) rest → AllByRecursion (λ r. P r.0) (cond b (row ∷ rest) rest)
  kept_one top true row rest here later = (here refl, later)
  kept_one top false row rest here later = later

  kept_all : (top : List ℕ) (rows : List Row) → AllByRecursion (λ row. lies_below row.0 top ≡ true → P row.0) rows
      → AllByRecursion (λ row. P row.0) (filter (λ row. lies_below row.0 top) rows)
  kept_all top [] h = tt
  kept_all top (row ∷ rows) h = kept_one top (lies_below row.0 top) row (filter (λ r. lies_below r.0 top) rows) h.0 (kept_all top rows h.1)

abbrev IsPathBut : (List ℕ → Bool) → List ℕ → Type 0
IsPathBut passes path = passes path ≡ false → IsPath path

behind_told : (passes : List ℕ → Bool) (top seen : List ℕ) (rows : List Row) → AllByRecursion (λ row. IsPathBut passes (told top seen row.0)) (map (behind (top ++ 47 ∷ [])) rows)
    → AreAllowedBut IsPath passes (seen ++ 47 ∷ []) rows
behind_told passes top seen [] h = tt
behind_told passes top seen (row ∷ rows) h = (subst (IsPathBut passes) (told_behind top seen row.0) h.0, behind_told passes top seen rows h.1)

pub told_paths : (passes : List ℕ → Bool) (held : List Held) (tree : Id) (top seen : List ℕ) (dir : Id) → IsBelow held tree top (Some dir)
    → AreToldPaths passes top seen (tree_rows held tree) → AreAllowedBut IsPath passes (seen ++ 47 ∷ []) (tree_rows held dir)
told_paths passes held tree top seen dir below h =
    behind_told passes top seen (tree_rows held dir)
    (subst (AllByRecursion (λ row. IsPathBut passes (told top seen row.0))) below.1 (kept_all (λ p. IsPathBut passes (told top seen p)) top (tree_rows held tree) h))

found_here : (row : Row) (rows : List Row) → is_some (find_row row.0 (row ∷ rows)) ≡ true
found_here row rows = ap (λ b. is_some (cond b (Some (row.1, row.2)) (find_row row.0 rows))) ((bytes_eq-Decides row.0 row.0).1 refl)

found_later : (p : List ℕ) (row : Row) (rows : List Row) → is_some (find_row p rows) ≡ true → is_some (find_row p (row ∷ rows)) ≡ true
found_later p row rows h = elim (same_bytes row.0 p) as (λ b. is_some (cond b (Some (row.1, row.2)) (find_row p rows)) ≡ true) [
  | true ↦ refl
  | false ↦ h
]

module _ (passes : List ℕ → Bool) (top seen : List ℕ) (held : List Held) (all : List Row)
    (tells : (p : List ℕ) → lies_below p top ≡ true → is_some (find_row p all) ≡ true → IsPathBut passes (told top seen p)) where
  pub rows_told : (rows : List Row) → ((p : List ℕ) → is_some (find_row p rows) ≡ true → is_some (find_row p all) ≡ true) → AreToldPaths passes top seen rows
  rows_told [] among = tt
  rows_told (row ∷ rows) among =
      (λ below. tells row.0 below (among row.0 (found_here row rows)), rows_told rows (λ p found. among p (found_later p row rows found)))

pub files_told : (passes : List ℕ → Bool) (top seen : List ℕ) (held : List Held) (at : Option Id) (tree : Id) (files : FileMap) → files_at held at ≡ files → at ≡ Some tree
    → TellsPaths passes top seen files → AreToldPaths passes top seen (tree_rows held tree)
files_told passes top seen held at tree files view is tells =
    rows_told passes top seen held (tree_rows held tree)
    (λ p below found. tells p below (ap (λ m. is_some (file_at m p)) (sym view ∙ ap (files_at held) is) ∙ ap is_some (file_at-map_of held (tree_rows held tree) p) ∙ is_found held (find_row p (tree_rows held tree)) ∙ found))
    (tree_rows held tree) (λ p found. found)

-- A commit's rows and its files.

any_of : (test : List ℕ → Bool) (rows : List Row) → list_any test (map (λ row. row.0) rows) ≡ list_any (λ row. test row.0) rows
any_of test [] = refl
any_of test (row ∷ rows) = ap (λ b. test row.0 || b) (any_of test rows)

one_of : (test : List ℕ → Bool) (row : Row) (rows : List Row) (b : Bool) → map (λ (r : Row). r.0) (cond b (row ∷ rows) rows) ≡ cond b (row.0 ∷ map (λ r. r.0) rows) (map (λ r. r.0) rows)
one_of test row rows true = refl
one_of test row rows false = refl

paths_kept : (test : List ℕ → Bool) (rows : List Row) → map (λ (row : Row). row.0) (filter (λ row. test row.0) rows) ≡ filter test (map (λ row. row.0) rows)
paths_kept test [] = refl
paths_kept test (row ∷ rows) =
    one_of test row (filter (λ r. test r.0) rows) (test row.0) ∙ ap (λ ps. cond (test row.0) (row.0 ∷ ps) ps) (paths_kept test rows)

paths_retold : (top seen : List ℕ) (rows : List Row) → map (λ (row : Row). row.0) (map (retold top seen) rows) ≡ map (told top seen) (map (λ row. row.0) rows)
paths_retold top seen [] = refl
paths_retold top seen (row ∷ rows) = ap (λ ps. told top seen row.0 ∷ ps) (paths_retold top seen rows)

paths_there : (held : List Held) (at : Option Id) (files : FileMap) → IsClosed held → IsTreeIn held at → files_at held at ≡ files → map (λ row. row.0) (rows_at held at) ≡ paths files
paths_there held at files closed has view = sym (paths-map_of held (rows_at held at) (rises held closed at has)) ∙ ap paths view

pub any_there : (test : List ℕ → Bool) (held : List Held) (at : Option Id) (files : FileMap) → IsClosed held → IsTreeIn held at → files_at held at ≡ files
    → list_any (λ row. test row.0) (rows_at held at) ≡ list_any test (paths files)
any_there test held at files closed has view = sym (any_of test (rows_at held at)) ∙ ap (list_any test) (paths_there held at files closed has view)

pub shown_there : (shows : List ℕ → Bool) (held : List Held) (at : Option Id) (files : FileMap) (found : List Row) → IsClosed held → IsTreeIn held at → files_at held at ≡ files
    → found ≡ filter (λ row. shows row.0) (rows_at held at) → map (λ row. row.0) found ≡ filter shows (paths files)
shown_there shows held at files found closed has view is =
    ap (map (λ row. row.0)) is ∙ paths_kept shows (rows_at held at) ∙ ap (filter shows) (paths_there held at files closed has view)

pub told_there : (shows : List ℕ → Bool) (top seen : List ℕ) (held : List Held) (at : Option Id) (files : FileMap) (found : List Row) → IsClosed held → IsTreeIn held at
    → files_at held at ≡ files → found ≡ rows_shown shows top seen (filter (λ row. lies_below row.0 top) (rows_at held at))
    → map (λ row. row.0) found ≡ filter shows (map (told top seen) (filter (λ p. lies_below p top) (paths files)))
told_there shows top seen held at files found closed has view is =
    let inner : List Row = filter (λ row. lies_below row.0 top) (rows_at held at) in
    ap (map (λ row. row.0)) is
    ∙ paths_kept shows (map (retold top seen) inner)
    ∙ ap (filter shows) (paths_retold top seen inner)
    ∙ ap (λ ps. filter shows (map (told top seen) ps))
    (paths_kept (λ p. lies_below p top) (rows_at held at) ∙ ap (filter (λ p. lies_below p top)) (paths_there held at files closed has view))

-- the paths of rows, one row after another
pub one_path : (done next : List (List ℕ)) (row : Row) (left rows all : List Row) → rows ≡ row ∷ left → next ≡ done ++ row.0 ∷ []
    → done ++ map (λ row. row.0) rows ≡ map (λ row. row.0) all → next ++ map (λ row. row.0) left ≡ map (λ row. row.0) all
one_path done next row left rows all first more so_far =
    ap (λ ps. ps ++ map (λ row. row.0) left) more
    ∙ append_assoc done (row.0 ∷ []) (map (λ row. row.0) left)
    ∙ ap (λ rs. done ++ map (λ row. row.0) rs) (sym first)
    ∙ so_far

pub no_path : (done : List (List ℕ)) (rows all : List Row) → length rows ≡ 0 → done ++ map (λ row. row.0) rows ≡ map (λ row. row.0) all
    → done ≡ map (λ row. row.0) all
no_path done [] all none so_far = sym (append-nil done) ∙ so_far
no_path done (row ∷ rows) all none so_far = absurd (omega (arith, none))

-- what follows of a list that was made
pub listed_if : {T E : Type 0} {A B : T → Type 0} (result : Result T E) → IfOk result A → ((found : T) → A found → B found) → IfOk result B
listed_if (Ok found) is then_is = then_is found is
listed_if (Err fault) is then_is = tt
