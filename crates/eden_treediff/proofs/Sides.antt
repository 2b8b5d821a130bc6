-- The trees of two commits, and what differs between them.
use Rattle.std.proofs.Common.{◌≡◌, ℕ, Bool, true, false, cond, List, [], ◌∷◌, ◌++◌, Option, Some, None, Result, Ok, Err, IfOk, refl, sym, ap, ◌∙◌}
use Rattle.std.specs.Prelude.{filter}
use Rattle.eden_globs.specs.Filters.{Patterns, all_paths}
use Rattle.eden_ids.specs.declared.id.Id.{Id}
use Rattle.eden_objects.specs.Objects.{Held, find, zero_id}
use Rattle.eden_ids.specs.Sameness.{same_id}
use Rattle.eden_objects.specs.Commits.{Row, commit_map, commit_rows, map_of_rows, rows_held}
use Rattle.eden_objects.specs.Closed.{IsClosed, AllNamed}
use Rattle.eden_objects.specs.Walks.{tree_seen}
use Rattle.eden_objects.proofs.TreeOf.{seen_rows}
use Rattle.eden_treediff.specs.Merges.{admitted, admitted_differences, differences, merge_rows, option_admitted}
use Rattle.eden_treediff.specs.internal.Walks.{behind, side_rows, wanted_behind}
use Rattle.eden_treediff.proofs.Listed.{listed_law}

pub empty_side : (held : List Held) (commit : Id) → same_id commit zero_id ≡ true → commit_rows held commit ≡ Some []
empty_side held commit t = ap (λ b. cond b (Some []) (rows_held held (find commit held))) t

pub side_rows_are : (held : List Held) (commit tree : Id) → same_id commit zero_id ≡ false → Some tree ≡ tree_seen (find commit held) → commit_rows held commit ≡ Some (side_rows held (Some tree))
side_rows_are held commit tree f is = seen_rows held commit (Some tree) f is

pub no_side : (held : List Held) (commit : Id) → same_id commit zero_id ≡ false → None ≡ tree_seen (find commit held) → commit_rows held commit ≡ None
no_side held commit f is = seen_rows held commit None f is

pub no_first : (held : List Held) (first second : Id) → commit_rows held first ≡ None → differences (commit_map held first) (commit_map held second) ≡ None
no_first held first second none = ap (λ o. differences (map_of_rows held o) (commit_map held second)) none

right_none : (held : List Held) (o : Option (List Row)) → differences (map_of_rows held o) None ≡ None
right_none held None = refl
right_none held (Some rows) = refl

pub no_second : (held : List Held) (first second : Id) → commit_rows held second ≡ None → differences (commit_map held first) (commit_map held second) ≡ None
no_second held first second none = ap (λ o. differences (commit_map held first) (map_of_rows held o)) none ∙ right_none held (commit_rows held first)

pub both_sides : (name : List ℕ → List ℕ → Id) (held : List Held) (wanted : Patterns) (first second : Id) (rs ss : List Row) (found : List (List ℕ)) → IsClosed held → AllNamed name held
    → commit_rows held first ≡ Some rs → commit_rows held second ≡ Some ss → found ≡ admitted wanted (merge_rows rs ss)
    → admitted_differences wanted (commit_map held first) (commit_map held second) ≡ Some found
both_sides name held wanted first second rs ss found closed named one two is =
    ap (option_admitted wanted) (listed_law name held closed named first second rs ss one two) ∙ ap Some (sym is)

behind_nothing : (ps : List (List ℕ)) → behind [] ps ≡ ps
behind_nothing [] = refl
behind_nothing (p ∷ ps) = ap (λ (qs : List (List ℕ)). p ∷ qs) (behind_nothing ps)

pub all_found : (test : List ℕ → Bool) (front : List ℕ) (done ps found : List (List ℕ)) → front ≡ [] → done ≡ [] → found ≡ done ++ wanted_behind test front ps → found ≡ filter test ps
all_found test front done ps found none nothing is =
    is ∙ ap (λ (qs : List (List ℕ)). qs ++ wanted_behind test front ps) nothing ∙ ap (λ (bytes : List ℕ). wanted_behind test bytes ps) none ∙ ap (filter test) (behind_nothing ps)

each_admitted : (ps : List (List ℕ)) → admitted all_paths ps ≡ ps
each_admitted [] = refl
each_admitted (p ∷ ps) = ap (λ (qs : List (List ℕ)). p ∷ qs) (each_admitted ps)

-- if every path is wanted all of the differences are admitted
pub none_left_out : (wanted : Patterns) (differences : Option (List (List ℕ))) (found : List (List ℕ)) → wanted ≡ all_paths → option_admitted wanted differences ≡ Some found → differences ≡ Some found
none_left_out wanted None found all is = is
none_left_out wanted (Some ps) found all is = ap Some (sym (each_admitted ps)) ∙ ap (λ qs. option_admitted qs (Some ps)) (sym all) ∙ is

pub if_ok : {X E : Type 0} (r : Result X E) (P Q : X → Type 0) → ((x : X) → P x → Q x) → IfOk r P → IfOk r Q
if_ok (Ok x) P Q h is = h x is
if_ok (Err e) P Q h is = tt
