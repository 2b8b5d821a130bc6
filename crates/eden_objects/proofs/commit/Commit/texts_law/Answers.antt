use Rattle.eden_objects.proofs.CommitTexts.{texts_at}
use Rattle.eden_objects.proofs.commit.Commit.texts_law.Goals as goal

pub returns : goal.returns
returns g c =
    texts_at c.self.inside.store.now c.self.inside.tree c.args.self.now c.closed_law.ensures.closed c.closed_law.ensures.small c.self.invariant c.self.view_is
