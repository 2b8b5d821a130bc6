use Rattle.std.proofs.Common.{◌≡◌, arith, subst}
use Rattle.eden_shared.specs.Passes.{made_by}
use Rattle.eden_shared.specs.Reached.{IsDescended}
use Rattle.eden_shared.proofs.shared.Shared.finish.Goals as goal

pub returns-clause-descends : goal.returns-clause-descends
returns-clause-descends g c =
    let all : c.into_inner-locked.result.book.total ≡ made_by c.args.passes.items =
    omega (arith, c.show_total.ensures.total, c.take_all_back.ensures.amount, c.into_inner-locked.result.unused) in
    subst (λ number. IsDescended g.T.Served.stored g.T.Served.apply_gives g.T.Served.hold_gives number c.into_inner-locked.result.object) all
    c.into_inner-locked.result.descends
