use Rattle.std.proofs.Common.{◌≡◌, is_some, map, take}
use Rattle.eden_ids.specs.FileMaps.{file_at}
use Rattle.eden_history.proofs.presence.presence_at.Given as goal

abbrev pub invariant-loop-path : goal.invariant-loop-path
invariant-loop-path g l = l.flags.items ≡ map (λ path. is_some (file_at (g.T.FileTree.files l.files) path)) (take l.path-index l.paths)
