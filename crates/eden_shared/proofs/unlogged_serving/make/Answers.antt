use Rattle.std.proofs.Common.{sym, subst}
use Rattle.eden_wire.specs.Commands.{ListsInOrder}
use Rattle.eden_shared.specs.Reached.{IsReached}
use Rattle.eden_shared.proofs.Carried.{made_in_order}
use Rattle.eden_shared.proofs.unlogged_serving.make.Goals as goal

pub returns-in_ok-change-in-Some-clause-ordered : goal.returns-in_ok-change-in-Some-clause-ordered
returns-in_ok-change-in-Some-clause-ordered g c =
    subst ListsInOrder (sym c.of.ensures.exact)
    (made_in_order (IsReached g.N.Naming.id g.T.Served.stands_for g.L.Origin.opens) g.N.Naming.id g.T.Served.stands_for g.T.Served.apply_gives 0 _ _ _
    c.in_ok-change-in-Some.ensures.made.2)
