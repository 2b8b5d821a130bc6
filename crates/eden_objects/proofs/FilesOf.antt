-- The files of a commit, counted by its rows.
use Rattle.std.proofs.Common.{◌≡◌, ℕ, ◌+◌, ◌^◌, ◌<◌, Bool, true, false, cond, ◌||◌, nat_le, List, [], ◌∷◌, map, length, Option, Some, None, refl, sym, ap, ◌∙◌, arith, length-append}
use Rattle.std.specs.Prelude.{filter}
use Rattle.std.specs.Ordering.{nat_cmp}
use Rattle.std.specs.Cmp.Lexicographic.{slice_cmp}
use Rattle.std.specs.List.{list_any}
use Rattle.std.specs.List.Sorted.{IsStrictlySortedBy}
use Rattle.eden_ids.specs.declared.id.Id.{Id}
use Rattle.eden_ids.specs.declared.content.Kind.{Kind}
use Rattle.eden_ids.specs.FileMaps.{FileMap, file_at, paths}
use Rattle.eden_ids.specs.Paths.{lies_below}
use Rattle.eden_objects.specs.Objects.{Held}
use Rattle.eden_git.specs.Trees.{Entry}
use Rattle.eden_objects.specs.Commits.{Row, entries_rows, entry_rows, find_row, tree_rows}
use Rattle.eden_objects.specs.Closed.{IsClosed}
use Rattle.eden_objects.specs.Counts.{capped}
use Rattle.eden_objects.specs.Walks.{content_found}
use Rattle.eden_objects.specs.Files.{IsTreeIn, files_at, rows_at}
use Rattle.eden_objects.proofs.Maps.{file_at-map_of, paths-map_of}
use Rattle.eden_objects.proofs.Rising.{rising_law}

pub rises : (held : List Held) → IsClosed held → (tree : Option Id) → IsTreeIn held tree → IsStrictlySortedBy (slice_cmp nat_cmp) (map (λ row. row.0) (rows_at held tree))
unfolding IsStrictlySortedBy
rises held closed None has = tt
rises held closed (Some tree) has = rising_law held closed tree has

as_many : (test : List ℕ → Bool) (rows : List Row) → length (filter test (map (λ row. row.0) rows)) ≡ length (filter (λ row. test row.0) rows)
as_many test [] = refl
as_many test (row ∷ rows) =
    let rest = as_many test rows in
    elim (test row.0) as (λ b. length (cond b (row.0 ∷ filter test (map (λ row. row.0) rows)) (filter test (map (λ row. row.0) rows))) ≡ length (cond b (row ∷ filter (λ row. test row.0) rows) (filter (λ row. test row.0) rows))) [
      | true ↦ omega (arith, rest)
      | false ↦ rest
    ]

-- below a path are as many files as rows
pub counted : (held : List Held) (tree : Option Id) (top : List ℕ) → IsClosed held → IsTreeIn held tree
    → capped (length (filter (λ p. lies_below p top) (paths (files_at held tree)))) ≡ capped (length (filter (λ row. lies_below row.0 top) (rows_at held tree)))
counted held tree top closed has =
    ap (λ ps. capped (length (filter (λ p. lies_below p top) ps))) (paths-map_of held (rows_at held tree) (rises held closed tree has))
    ∙ ap capped (as_many (λ p. lies_below p top) (rows_at held tree))

-- a look-up in the files of a tree, and in those of none
pub file_there : (held : List Held) (at : Option Id) (tree : Id) (files : FileMap) (p : List ℕ) (found : Option (Kind × Id)) → files_at held at ≡ files → at ≡ Some tree
    → found ≡ find_row p (tree_rows held tree) → content_found held found ≡ file_at files p
file_there held at tree files p found view is row =
    ap (content_found held) row ∙ sym (file_at-map_of held (tree_rows held tree) p) ∙ ap (λ t. file_at (files_at held t) p) (sym is) ∙ ap (λ m. file_at m p) view

pub no_file_there : (held : List Held) (at : Option Id) (files : FileMap) (p : List ℕ) → files_at held at ≡ files → at ≡ None → None ≡ file_at files p
no_file_there held at files p view is = sym (file_at-map_of held [] p) ∙ ap (λ t. file_at (files_at held t) p) (sym is) ∙ ap (λ m. file_at m p) view

pub count_there : (held : List Held) (at : Option Id) (files : FileMap) (top : List ℕ) → IsClosed held → IsTreeIn held at → files_at held at ≡ files
    → capped (length (filter (λ row. lies_below row.0 top) (rows_at held at))) ≡ capped (length (filter (λ p. lies_below p top) (paths files)))
count_there held at files top closed has view =
    sym (counted held at top closed has) ∙ ap (λ m. capped (length (filter (λ p. lies_below p top) (paths m)))) view

pub enough : (n count : ℕ) → count < 2 ^ 64 → nat_le count (capped n) ≡ nat_le count n
enough n count small = grind (arith, small)

-- there is one exactly if there is any
pub any_counted : (test : List ℕ → Bool) (ks : List (List ℕ)) → nat_le 1 (length (filter test ks)) ≡ list_any test ks
any_counted test [] = refl
any_counted test (k ∷ ks) = elim (test k) as (λ b. nat_le 1 (length (cond b (k ∷ filter test ks) (filter test ks))) ≡ (b || list_any test ks)) [
  | true ↦ grind arith
  | false ↦ any_counted test ks
]

-- one entry more is counted
pub one_counted : (rows : Id → List Row) (files more new target : ℕ) (e : Entry) (es all : List Entry) → all ≡ e ∷ es → more ≡ capped (length (entries_rows rows (e ∷ [])))
    → new ≡ capped (files + more) → capped (files + length (entries_rows rows all)) ≡ target → capped (new + length (entries_rows rows es)) ≡ target
one_counted rows files more new target e es all is here now counted =
    let own : length (entries_rows rows (e ∷ [])) ≡ length (entry_rows rows e) + 0 = length-append (entry_rows rows e) [] in
    let whole : length (entries_rows rows all) ≡ length (entry_rows rows e) + length (entries_rows rows es) =
    ap (λ fs. length (entries_rows rows fs)) is ∙ length-append (entry_rows rows e) (entries_rows rows es) in
    omega (arith, own, whole, here, now, counted)
