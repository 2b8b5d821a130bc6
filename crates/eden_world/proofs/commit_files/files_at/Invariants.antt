use Rattle.std.proofs.Common.{◌≡◌, drop}
use Rattle.eden_ids.specs.FileMaps.{file_at, tabulate}
use Rattle.eden_world.proofs.commit_files.files_at.Given as goal

abbrev pub invariant-loop-place : goal.invariant-loop-place
invariant-loop-place g l = l.files ≡ tabulate (drop l.place l.paths) (file_at (g.T.FileTree.files l.tree))
