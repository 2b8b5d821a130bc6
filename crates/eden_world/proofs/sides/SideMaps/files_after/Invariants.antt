use Rattle.std.proofs.Common.{◌≡◌, drop}
use Rattle.eden_ids.specs.FileMaps.{tabulate}
use Rattle.eden_history.specs.Checkouts.{rule_of}
use Rattle.eden_world.proofs.sides.SideMaps.files_after.Given as goal

abbrev pub invariant-loop-place : goal.invariant-loop-place
invariant-loop-place l = l.files ≡ tabulate (drop l.place l.all.items) (rule_of l.mode l.self.work l.self.root l.self.target)
