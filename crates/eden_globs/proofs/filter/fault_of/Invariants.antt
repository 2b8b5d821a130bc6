use Rattle.std.proofs.Common.{◌≡◌, map, drop}
use Rattle.eden_globs.specs.Filters.{patterns_fault}
use Rattle.eden_globs.proofs.filter.fault_of.Given as goal

-- no pattern so far has a fault
abbrev pub invariant-loop-place : goal.invariant-loop-place
invariant-loop-place l =
    patterns_fault l.place (map (λ p. p.now) (drop l.place l.patterns)) ≡ patterns_fault 0 (map (λ p. p.now) l.patterns)
