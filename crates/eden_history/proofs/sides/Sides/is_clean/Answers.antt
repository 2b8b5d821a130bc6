use Rattle.eden_history.proofs.DirtyFiles.{changed_rise}
use Rattle.eden_history.proofs.sides.Sides.is_clean.Goals as goal

pub is_listed-requires : goal.is_listed-requires
is_listed-requires g c = changed_rise _ _ c.args.self.now.changed.now c.args.self.now.each
