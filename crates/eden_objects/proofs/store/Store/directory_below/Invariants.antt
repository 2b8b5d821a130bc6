use Rattle.std.proofs.Common.{length}
use Rattle.eden_objects.proofs.Below.{IsOnTheWay}
use Rattle.eden_objects.proofs.store.Store.directory_below.Given as goal

abbrev pub invariant-walk : goal.invariant-walk
invariant-walk g l = IsOnTheWay l.self l.fn.tree l.path l.dir l.rest

abbrev pub decreases-walk : goal.decreases-walk
decreases-walk g l = length l.rest
