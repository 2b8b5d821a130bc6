use Rattle.std.proofs.Common.{◌∙◌, ap, sym}
use Rattle.std.specs.Map.{lookup}
use Rattle.eden_ids.specs.Sameness.{same_id}
use Rattle.eden_segments.specs.internal.Segments.{frozen_rows, stored}
use Rattle.eden_segments.proofs.Distinct.{absent_behind, turned_back}
use Rattle.eden_segments.proofs.table.Table.add.Goals as goal

pub add-requires : goal.add-requires
add-requires g c =
    absent_behind (same_id c.args.id) (frozen_rows c.self.inside.frozen.items) c.self.inside.newest
    (sym (turned_back (stored c.self.inside.frozen.items c.self.inside.newest) c.args.id c.self.invariant)
    ∙ ap (lookup (same_id c.args.id)) c.self.view_is ∙ c.requires.fresh)
