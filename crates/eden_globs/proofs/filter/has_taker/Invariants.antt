use Rattle.std.proofs.Common.{◌≡◌, ℕ, List, drop}
use Rattle.eden_globs.specs.Filters.{some_take}
use Rattle.eden_globs.specs.internal.Compiled.{AreCompiled}
use Rattle.eden_globs.proofs.filter.has_taker.Given as goal

-- no pattern so far takes the directory
abbrev pub invariant-loop-parts : goal.invariant-loop-parts
invariant-loop-parts l = (patterns : List (List ℕ)) → AreCompiled l.compiled patterns → some_take (drop l.parts-index patterns) l.directory ≡ some_take patterns l.directory
