use Rattle.std.proofs.Common.{◌≡◌, drop}
use Rattle.std.specs.Map.{lookup}
use Rattle.eden_ids.specs.Sameness.{same_id}
use Rattle.eden_segments.specs.internal.Segments.{frozen_rows}
use Rattle.eden_segments.proofs.freezing.find_in.Given as goal

abbrev pub invariant-loop-segment : goal.invariant-loop-segment
invariant-loop-segment g l = lookup (same_id l.id) (frozen_rows (drop l.segment-index l.frozen)) ≡ lookup (same_id l.id) (frozen_rows l.frozen)
