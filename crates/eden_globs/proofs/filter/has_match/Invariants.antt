use Rattle.std.proofs.Common.{◌≡◌, ℕ, List, drop}
use Rattle.eden_globs.specs.Filters.{some_match}
use Rattle.eden_globs.specs.internal.Compiled.{AreCompiled}
use Rattle.eden_globs.proofs.filter.has_match.Given as goal

-- no pattern so far matches the path
abbrev pub invariant-loop-parts : goal.invariant-loop-parts
invariant-loop-parts l = (patterns : List (List ℕ)) → AreCompiled l.compiled patterns → some_match (drop l.parts-index patterns) l.path ≡ some_match patterns l.path
