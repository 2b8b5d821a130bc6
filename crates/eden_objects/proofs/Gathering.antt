-- What a list of the files below a directory shows.
use Rattle.std.proofs.Common.{◌≡◌, ℕ, ◌++◌, ◌&&◌, Bool, true, false, not, cond, List, [], ◌∷◌, drop, map, take, length, refl, sym, ap, ◌∙◌, append_assoc}
use Rattle.std.proofs.lemmas.Bool.{eq-eqb}
use Rattle.std.proofs.lemmas.Bool.Decides.{Decides-eqb}
use Rattle.std.proofs.lemmas.Slice.Eq.{starts_is}
use Rattle.std.proofs.Math.Bool.{and_comm}
use Rattle.std.proofs.Math.Seq.{take-append_seam}
use Rattle.std.specs.Prelude.{filter}
use Rattle.std.specs.List.{AllByRecursion}
use Rattle.eden_globs.specs.Filters.{Patterns, admits}
use Rattle.eden_ids.specs.Paths.{lies_below}
use Rattle.eden_objects.specs.Commits.{Row}
use Rattle.eden_objects.specs.Passing.{is_shown}
use Rattle.eden_objects.specs.internal.Below.{behind, rows_behind}
use Rattle.eden_objects.specs.internal.Passed.{rows_but}

-- what is after a directory's name and a slash lies below it

pub inside : (top rest : List ℕ) → lies_below (top ++ 47 ∷ rest) top ≡ true
inside [] [] = refl
inside [] (r ∷ rest) = refl
inside (t ∷ top) rest = ap (λ b. b && lies_below (top ++ 47 ∷ rest) top) (eq-eqb t t refl) ∙ inside top rest

-- what lies above a path lies above all that begins with it
pub above_more : (path rest top : List ℕ) → lies_below path top ≡ true → lies_below (path ++ rest) top ≡ true
above_more path rest top above =
    let more : List ℕ = drop (length (top ++ 47 ∷ [])) path in
    let is : path ≡ (top ++ 47 ∷ []) ++ more = (starts_is Decides-eqb path (top ++ 47 ∷ []) (lies_below path top) refl).0 above in
    ap (λ p. lies_below p top) (ap (λ p. p ++ rest) is ∙ append_assoc (top ++ 47 ∷ []) more rest ∙ append_assoc top (47 ∷ []) (more ++ rest)) ∙ inside top (more ++ rest)

-- what a test refuses below a directory
pub none_wanted : (test : List ℕ → Bool) (dir : List ℕ) (rows : List Row) → ((path : List ℕ) → lies_below path dir ≡ true → test path ≡ false)
    → AllByRecursion (λ row. lies_below row.0 dir ≡ true) rows → filter (λ row. test row.0) rows ≡ []
none_wanted test dir [] outside below = refl
none_wanted test dir (row ∷ rows) outside below =
    ap (λ b. cond b (row ∷ filter (λ r. test r.0) rows) (filter (λ r. test r.0) rows)) (outside row.0 below.0) ∙ none_wanted test dir rows outside below.1

-- what is after a directory's path and a slash lies below it
pub behind_below : (dir : List ℕ) (rows : List Row) → AllByRecursion (λ row. lies_below row.0 dir ≡ true) (map (behind (dir ++ 47 ∷ [])) rows)
behind_below dir [] = tt
behind_below dir (row ∷ rows) = (ap (λ p. lies_below p dir) (append_assoc dir (47 ∷ []) row.0) ∙ inside dir row.0, behind_below dir rows)

-- the bytes before the name are there again
pub left : (front inner name : List ℕ) → inner ≡ front ++ name ++ 47 ∷ [] → take (length front) inner ≡ front
left front inner name is = ap (take (length front)) (is ∙ append_assoc front name (47 ∷ [])) ∙ take-append_seam front (name ++ 47 ∷ [])

behind_nothing : (rows : List Row) → map (behind []) rows ≡ rows
behind_nothing [] = refl
behind_nothing (row ∷ rows) = ap (λ (more : List Row). row ∷ more) (behind_nothing rows)

pub nothing_before : (test : List ℕ → Bool) (rows found : List Row) → found ≡ rows_behind test [] rows → filter (λ row. test row.0) rows ≡ found
nothing_before test rows found is = sym (is ∙ ap (filter (λ row. test row.0)) (behind_nothing rows))

-- where a filter admits nothing below a directory, nothing is shown of it
pub none_admitted : (passes : List ℕ → Bool) (wanted : Patterns) (dir : List ℕ) (rows : List Row) → ((path : List ℕ) → lies_below path dir ≡ true → admits wanted path ≡ false)
    → rows_behind (is_shown passes wanted) (dir ++ 47 ∷ []) rows ≡ []
none_admitted passes wanted dir rows outside =
    none_wanted (is_shown passes wanted) dir (map (behind (dir ++ 47 ∷ [])) rows)
    (λ path below. ap (λ b. not (passes path) && b) (outside path below) ∙ and_comm (not (passes path)) false) (behind_below dir rows)

-- the admitted files among those that are not passed over are those that are shown
pub shown_but : (passes : List ℕ → Bool) (wanted : Patterns) (front : List ℕ) (rows : List Row)
    → filter (λ row. admits wanted row.0) (rows_but passes front rows) ≡ rows_behind (is_shown passes wanted) front rows
shown_but passes wanted front [] = refl
shown_but passes wanted front (row ∷ rows) =
    let rest = shown_but passes wanted front rows in
    let path : List ℕ = front ++ row.0 in
    elim (not (passes path))
    as (λ b. filter (λ r. admits wanted r.0) (cond b (behind front row ∷ rows_but passes front rows) (rows_but passes front rows))
    ≡ cond (b && admits wanted path) (behind front row ∷ rows_behind (is_shown passes wanted) front rows) (rows_behind (is_shown passes wanted) front rows)) [
      | true ↦ ap (λ more. cond (admits wanted path) (behind front row ∷ more) more) rest
      | false ↦ rest
    ]
