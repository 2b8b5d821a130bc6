use Rattle.std.proofs.Common.{◌≡◌, is_some, length}
use Rattle.std.specs.List.{list_any}
use Rattle.eden_overlay.specs.internal.Blocks.{before}
use Rattle.eden_overlay.proofs.entries_below.has_present.Given as goal

abbrev pub invariant-loop-entry : goal.invariant-loop-entry
invariant-loop-entry l = list_any (λ e. is_some e.1) (before l.end l.entries) ≡ list_any (λ e. is_some e.1) (before l.end l.initial.entries)

abbrev pub decreases-loop-entry : goal.decreases-loop-entry
decreases-loop-entry l = length l.entries
