use Rattle.std.proofs.Common.{◌≡◌, take}
use Rattle.std.specs.Prelude.{All}
use Rattle.eden_accumulate.specs.Mounts.{StandsFor}
use Rattle.eden_history.specs.Worlds.{WorldState, now}
use Rattle.eden_ids.specs.FileMaps.{file_at}
use Rattle.eden_demo.proofs.judging.are_same.Given as goal

-- the files at the paths so far are the same
abbrev pub invariant-loop-path : goal.invariant-loop-path
invariant-loop-path l = (world : WorldState) → StandsFor l.mount world
    → All (λ path. file_at l.mirror.files path ≡ file_at (now world).files path) (take l.path-index l.paths)
