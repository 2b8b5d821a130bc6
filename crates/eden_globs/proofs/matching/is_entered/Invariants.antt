use Rattle.std.proofs.Common.{◌≡◌, ℕ, List, drop}
use Rattle.eden_ids.specs.Paths.{components}
use Rattle.eden_globs.specs.Filters.{parts_enter}
use Rattle.eden_globs.specs.internal.Compiled.{AreParts, left_of}
use Rattle.eden_globs.proofs.matching.is_entered.Given as goal

abbrev pub invariant-loop-part : goal.invariant-loop-part
invariant-loop-part l = (texts : List (List ℕ)) → AreParts l.parts texts → parts_enter (drop l.part-index texts) (left_of l.left) ≡ parts_enter texts (components l.directory)
