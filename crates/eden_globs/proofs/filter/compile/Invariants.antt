use Rattle.std.proofs.Common.{take}
use Rattle.eden_globs.specs.Filters.{lists}
use Rattle.eden_globs.specs.internal.Compiled.{AreCompiled}
use Rattle.eden_globs.proofs.filter.compile.Given as goal

abbrev pub invariant-loop-pattern : goal.invariant-loop-pattern
invariant-loop-pattern l = AreCompiled l.compiled.items (lists (take l.pattern-index l.patterns))
