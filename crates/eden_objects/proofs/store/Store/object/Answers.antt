use Rattle.std.proofs.Common.{◌∙◌, ap}
use Rattle.eden_objects.specs.Objects.{find}
use Rattle.eden_objects.specs.internal.Kept.{option_held}
use Rattle.eden_objects.proofs.Tables.{find_in_table, kept_in_table}
use Rattle.eden_objects.proofs.store.Store.object.Goals as goal

pub returns-clause-found : goal.returns-clause-found
returns-clause-found g c =
    ap (option_held c.args.id) c.get.ensures ∙ find_in_table c.self.inside.objects c.args.id ∙ ap (find c.args.id) c.self.view_is

pub returns-clause-kept : goal.returns-clause-kept
returns-clause-kept g c = rw (c.get.ensures, ← c.self.view_is) (kept_in_table c.self.inside.objects c.args.id c.self.invariant.0 c.self.invariant.2)
