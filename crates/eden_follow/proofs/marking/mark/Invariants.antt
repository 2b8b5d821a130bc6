use Rattle.std.proofs.Common.{◌≡◌, ◌<◌, ◌≤◌, ℕ, List, [], ◌∷◌, ◌++◌, length, map, get_or}
use Rattle.std.specs.Prelude.{All}
use Rattle.eden_messages.specs.declared.message.Request.{Request}
use Rattle.eden_follow.specs.declared.rows.RequestRow.{RequestRow}
use Rattle.eden_follow.specs.internal.Rows.{IsMarked, asked}
use Rattle.eden_follow.proofs.marking.mark.Given as goal

-- the rows so far are marked, and those that are left are as they were
abbrev pub invariant-loop-at : goal.invariant-loop-at
invariant-loop-at l = record {
  rows : map asked l.rows ≡ map asked l.initial.rows;
  done : (sent : List Request) → All (IsMarked sent) l.initial.rows → (k : ℕ) (d : RequestRow) → k < l.at → IsMarked (sent ++ l.request ∷ []) (get_or l.rows k d);
  left : (k : ℕ) (d : RequestRow) → l.at ≤ k → k < length l.rows → get_or l.rows k d ≡ get_or l.initial.rows k d;
}
