use Rattle.std.proofs.Common.{◌≡◌, false, map, take}
use Rattle.std.specs.List.{list_any}
use Rattle.eden_overlay.specs.Carried.{breaks}
use Rattle.eden_renames.specs.internal.Shifted.{shifted_entry}
use Rattle.eden_renames.proofs.below.shifted.Given as goal

abbrev pub invariant-loop-entry : goal.invariant-loop-entry
invariant-loop-entry l = record {
  shifted : l.more.items ≡ map (shifted_entry l.old l.new) (take l.entry-index l.entries);
  sound : list_any (λ e. breaks l.old l.new e.0) (take l.entry-index l.entries) ≡ false;
}
