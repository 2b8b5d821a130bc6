use Rattle.std.proofs.Common.{ap, ◌∙◌}
use Rattle.eden_ids.specs.FileMaps.{path_set}
use Rattle.eden_ranges.proofs.expanding.make_room.Goals as goal

pub returns : goal.returns
returns c = ap path_set c.in_ok-reserve.ensures.items ∙ c.in_ok-put_in_order.ensures.same
