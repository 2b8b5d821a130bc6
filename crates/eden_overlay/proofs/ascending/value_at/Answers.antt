use Rattle.std.proofs.Common.{subst}
use Rattle.eden_overlay.specs.internal.There.{IsThere}
use Rattle.eden_overlay.proofs.Placing.{told_is}
use Rattle.eden_overlay.proofs.ascending.value_at.Goals as goal

pub returns-then-is_there : goal.returns-then-is_there
returns-then-is_there g c =
    told_is c.args.path.now c.args.entries.now c.place_of-at.result c.index-entries-at.result c.place_of-at.ensures.is
    (subst (λ b. IsThere b c.args.path.now c.args.entries.now c.place_of-at.result) c.if-is_there.true c.is_there.ensures)
