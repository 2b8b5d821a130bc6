use Rattle.std.proofs.Common.{ap, ◌∙◌}
use Rattle.eden_objects.specs.Objects.{find}
use Rattle.eden_objects.proofs.Tables.{absent_in_table}
use Rattle.eden_objects.proofs.store.Store.add.Goals as goal

pub add-requires : goal.add-requires
add-requires g c = record { fresh = absent_in_table c.self.inside.objects c.args.id (ap (find c.args.id) c.self.view_is ∙ c.requires.fresh) }
