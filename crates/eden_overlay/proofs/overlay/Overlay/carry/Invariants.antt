use Rattle.std.proofs.Common.{◌≡◌, ◌&&◌}
use Rattle.std.specs.List.{list_any}
use Rattle.std.specs.FinMap as fin
use Rattle.eden_ids.specs.Paths.{lies_below}
use Rattle.eden_overlay.specs.Carried.{breaks}
use Rattle.eden_overlay.specs.Layers.{Entry}
use Rattle.eden_overlay.proofs.CarriedLayers.{each_put}
use Rattle.eden_overlay.proofs.overlay.Overlay.carry.Given as goal

abbrev pub invariant-loop-entry : goal.invariant-loop-entry
invariant-loop-entry l = record {
  put : each_put l.old l.new l.next l.entry-iterator ≡ each_put l.old l.new fin.empty l.initial.entry-iterator;
  whole : list_any {X = Entry} (λ e. lies_below e.0 l.old && breaks l.old l.new e.0) l.entry-iterator
      ≡ list_any {X = Entry} (λ e. lies_below e.0 l.old && breaks l.old l.new e.0) l.initial.entry-iterator;
}
