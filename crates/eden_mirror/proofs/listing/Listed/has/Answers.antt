use Rattle.std.proofs.Common.{subst, ap, ◌∙◌}
use Rattle.eden_messages.specs.Mirrors.{is_among}
use Rattle.eden_mirror.specs.internal.Listed.{IsFound}
use Rattle.eden_mirror.proofs.Pending.{is_among-distinct}
use Rattle.eden_mirror.proofs.listing.Listed.has.Goals as goal

pub returns-in-Some : goal.returns-in-Some
returns-in-Some c =
    c.has.ensures ∙ ap (is_among c.args.path.now) (subst (IsFound c.self.inside.paths.now) c.in-Some.is c.self.invariant)
    ∙ is_among-distinct c.args.path.now c.self.inside.paths.now ∙ ap (is_among c.args.path.now) c.self.view_is
