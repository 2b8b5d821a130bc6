use Rattle.std.proofs.Common.{◌≡◌, map, take}
use Rattle.eden_globs.specs.Filters.{lists}
use Rattle.eden_globs.proofs.filter.copies.Given as goal

abbrev pub invariant-loop-pattern : goal.invariant-loop-pattern
invariant-loop-pattern l = lists l.copies.items ≡ map (λ p. p.now) (take l.pattern-index l.patterns)
