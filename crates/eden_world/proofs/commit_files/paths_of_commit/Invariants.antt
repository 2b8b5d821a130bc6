use Rattle.std.proofs.Common.{◌≡◌, map, take}
use Rattle.eden_world.proofs.commit_files.paths_of_commit.Given as goal

abbrev pub invariant-loop-row : goal.invariant-loop-row
invariant-loop-row g l = l.list.items ≡ map (λ row. row.0) (take l.row-index l.row-items)
