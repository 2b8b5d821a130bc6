use Rattle.std.proofs.Common.{T, sym, ap, subst, ◌∙◌}
use Rattle.eden_overlay.specs.internal.Blocks.{before, flat}
use Rattle.eden_overlay.proofs.Walked.{begins_before}
use Rattle.eden_overlay.proofs.entries_walk.Walk.first_before.Goals as goal

pub returns-then-is_before-clause-some : goal.returns-then-is_before-clause-some
returns-then-is_before-clause-some c =
    let there = begins_before c.args.path.now c.in_ok-entry.entry.now c.self.inside.block.now c.in_ok-entry.field-0-1.now (flat c.self.inside.later.now)
    (subst T (sym (sym c.is_before.ensures ∙ c.if-is_before.true)) tt) c.in_ok-entry.ensures.cases.0 in
    (there.0, ap (before c.args.path.now) (sym c.self.view_is) ∙ there.1)
