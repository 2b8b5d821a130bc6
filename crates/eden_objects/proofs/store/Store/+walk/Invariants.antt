use Rattle.std.proofs.Common.{◌≡◌}
use Rattle.std.specs.List.{AllByRecursion}
use Rattle.eden_objects.specs.Trees.{tree_depth}
use Rattle.eden_objects.specs.Commits.{tree_rows}
use Rattle.eden_objects.specs.internal.Passed.{rows_but}
use Rattle.eden_objects.proofs.Visiting.{GoesOn, IsAhead}
use Rattle.eden_objects.proofs.store.Store.+walk.Given as goal

abbrev pub decreases-walk : goal.decreases-walk
decreases-walk g l = tree_depth l.self.now l.tree

abbrev pub invariant-entries : goal.invariant-entries
invariant-entries g l = record {
  visited : GoesOn g.V.Visit.gives (g.S.Passes.passes l.passed) l.fn.trail (tree_rows l.self) l.fn.visit (rows_but (g.S.Passes.passes l.passed) l.fn.trail (tree_rows l.self l.fn.tree)) l.visit l.entry-iterator;
  trail : l.trail ≡ l.fn.trail;
  ahead : AllByRecursion (IsAhead g.V.Visit.allows (g.S.Passes.passes l.passed) l.fn.trail l.self l.fn.tree) l.entry-iterator;
}
