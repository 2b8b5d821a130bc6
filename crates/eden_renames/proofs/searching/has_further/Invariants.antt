use Rattle.std.proofs.Common.{◌≡◌, false, take}
use Rattle.std.specs.List.{list_any}
use Rattle.eden_renames.specs.internal.Regions.{has_own}
use Rattle.eden_renames.proofs.searching.has_further.Given as goal

-- none so far has one
abbrev pub invariant-loop-entry : goal.invariant-loop-entry
invariant-loop-entry g l =
    list_any (λ e. has_own (g.S.Passes.passes l.passed) l.commit l.renames e.0) (take l.entry-index l.entry-items) ≡ false
