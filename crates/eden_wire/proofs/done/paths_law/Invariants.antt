use Rattle.std.proofs.Common.{drop}
use Rattle.std.specs.List.{AllByRecursion}
use Rattle.eden_ids.specs.Texts.{IsPathText}
use Rattle.eden_wire.proofs.done.paths_law.Given as goal

abbrev pub invariant-loop-path : goal.invariant-loop-path
invariant-loop-path l = AllByRecursion IsPathText (drop l.path-index l.paths) → AllByRecursion IsPathText l.paths
