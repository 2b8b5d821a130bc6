use Rattle.std.proofs.Common.{◌≡◌, ℕ, List, drop}
use Rattle.std.specs.List.{list_any}
use Rattle.eden_globs.specs.Filters.{pattern_enters}
use Rattle.eden_globs.specs.internal.Compiled.{AreCompiled}
use Rattle.eden_globs.proofs.filter.is_any_entered.Given as goal

-- no pattern so far enters the directory
abbrev pub invariant-loop-parts : goal.invariant-loop-parts
invariant-loop-parts l = (patterns : List (List ℕ)) → AreCompiled l.compiled patterns
    → list_any (λ pattern. pattern_enters pattern l.directory) (drop l.parts-index patterns) ≡ list_any (λ pattern. pattern_enters pattern l.directory) patterns
