use Rattle.std.proofs.Common.{◌≡◌, Some, take}
use Rattle.eden_script.specs.Sessions.{tree_payload}
use Rattle.eden_edend.proofs.objects.tree_payload.Given as goal

abbrev pub invariant-loop-entry : goal.invariant-loop-entry
invariant-loop-entry l = tree_payload l.labels (take l.entry-index l.entries) ≡ Some l.payload.items
