-- Sorted rows, so that those of one ticket or of one question are consecutive.
use Rattle.std.specs.Prelude.{◌<◌, ◌≤◌, ℕ, List, [], length, slice_index_or}
use Rattle.std.specs.Cmp.Lexicographic.{slice_cmp}
use Rattle.std.specs.List.Sorted.{IsSortedBy}
use Rattle.std.specs.Ordering.{is_lt, nat_cmp, on, then_cmp}
use Rattle.std.specs.declared.cmp.Ordering.{Ordering}
use Rattle.eden_messages.specs.declared.message.Request.{Request}
use Rattle.eden_messages.specs.declared.message.Request.TheVariants.{Basis, Poll, Fetch, List as Below}
use Rattle.eden_messages.specs.Mirrors.{query_of}
use Rattle.eden_follow.specs.declared.rows.RequestRow.{RequestRow}

-- the path whose content or list is requested
abbrev pub path_in : Request → List ℕ
path_in (Basis query patterns) = []
path_in (Poll query since patterns) = []
path_in (Fetch query path) = path
path_in (Below query prefix patterns) = prefix

-- by mirror, life and number, and then by path
abbrev pub question_cmp : Request → Request → Ordering
question_cmp =
    then_cmp (then_cmp (then_cmp (on (λ (r : Request). (query_of r).mirror) nat_cmp) (on (λ (r : Request). (query_of r).life) nat_cmp)) (on (λ (r : Request). (query_of r).number) nat_cmp))
    (on path_in (slice_cmp nat_cmp))

abbrev pub AreInOrder : List RequestRow → Type 0
AreInOrder rows = IsSortedBy (λ (a b : RequestRow). is_lt (question_cmp a.request.now b.request.now)) rows

-- all items of the list for which this holds are from the start up to the end
pub record IsGroup {X : Type 0} (IsIt : X → Type 0) (xs : List X) (start end : ℕ) : Type 0 where
  pub order : start ≤ end
  pub bound : end ≤ length xs
  pub before : (k : ℕ) (d : X) → k < start → IsIt (slice_index_or xs k d) → ⊥
  pub behind : (k : ℕ) (d : X) → end ≤ k → k < length xs → IsIt (slice_index_or xs k d) → ⊥
