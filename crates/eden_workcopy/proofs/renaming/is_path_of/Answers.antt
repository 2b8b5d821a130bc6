use Rattle.eden_workcopy.proofs.CarriedWhole.{no_path_so_long}
use Rattle.std.proofs.Common.{◌++◌}
use Rattle.eden_workcopy.proofs.renaming.is_path_of.Goals as goal

pub returns-in-None : goal.returns-in-None
returns-in-None c = no_path_so_long (c.args.front.now ++ c.args.rest.now) c.in-None.ensures
