use Rattle.std.proofs.Common.{drop}
use Rattle.std.specs.List.{AllByRecursion}
use Rattle.eden_ids.specs.Texts.{AreBytes}
use Rattle.eden_globs.specs.Filters.{lists}
use Rattle.eden_messages.proofs.text_laws.patterns_law.Given as goal

abbrev pub invariant-loop-pattern : goal.invariant-loop-pattern
invariant-loop-pattern l = AllByRecursion AreBytes (lists (drop l.pattern-index l.patterns)) → AllByRecursion AreBytes (lists l.patterns)
