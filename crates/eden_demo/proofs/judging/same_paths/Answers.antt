use Rattle.std.proofs.lemmas.Bool.Decides.{Decides-at}
use Rattle.eden_ids.proofs.Alike.{paths_decide}
use Rattle.eden_demo.proofs.judging.same_paths.Goals as goal

pub returns : goal.returns
returns c = Decides-at _ _ c.eq.ensures (paths_decide c.args.one.now c.args.other.now)
