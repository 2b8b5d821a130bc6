use Rattle.std.proofs.Common.{◌≡◌, ◌<◌, ℕ, false}
use Rattle.eden_ids.proofs.TreeQuestions.{stands}
use Rattle.eden_ids.proofs.file_tree.has_file_above.Given as goal

abbrev pub invariant-loop-at : goal.invariant-loop-at
invariant-loop-at g l = record { none : (i : ℕ) → i < l.at → stands (g.T.FileTree.files l.files) l.path i ≡ false }
