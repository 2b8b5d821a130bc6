use Rattle.std.proofs.Common.{subst}
use Rattle.eden_mirror.specs.internal.Pending.{AreDistinct}
use Rattle.eden_mirror.proofs.Pending.{pending_distinct}
use Rattle.eden_mirror.proofs.awaited.Awaited.distinct_law.Goals as goal

pub returns : goal.returns
returns c = subst AreDistinct c.self.view_is (pending_distinct c.self.inside.paths.entries c.self.invariant.distinct)
