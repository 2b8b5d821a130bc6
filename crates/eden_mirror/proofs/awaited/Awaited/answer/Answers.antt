use Rattle.std.proofs.Common.{length, sym, ap, subst, ◌∙◌, true, arith}
use Rattle.std.specs.List.{IsDistinct}
use Rattle.indexmap.proofs.CallerLemmas.{keys-with_value_at}
use Rattle.eden_ids.specs.Sameness.{same_bytes}
use Rattle.eden_messages.specs.Mirrors.{without}
use Rattle.eden_mirror.specs.internal.Pending.{pending}
use Rattle.eden_mirror.proofs.Pending.{length-without, pending-marked, pending_distinct}
use Rattle.eden_mirror.proofs.awaited.Awaited.answer.Goals as goal

pub invariant_of-self : goal.invariant_of-self
invariant_of-self c =
    let es = c.self.inside.paths.entries in
    let fewer = ap length (pending-marked c.args.path es c.in-Some.at c.self.invariant.distinct c.in-Some.ensures.there) in
    let less = length-without c.args.path (pending es) (pending_distinct es c.self.invariant.distinct) (sym c.in-Some.ensures.awaited) in
    record {
      distinct = subst (IsDistinct same_bytes) (sym (keys-with_value_at c.self.inside.paths c.in-Some.at true)) c.self.invariant.distinct;
      count = omega (arith, c.self.invariant.count, less, fewer);
    }

pub returns-clause-left : goal.returns-clause-left
returns-clause-left c =
    c.sweep.ensures
    ∙ pending-marked c.args.path c.self.inside.paths.entries c.in-Some.at c.self.invariant.distinct c.in-Some.ensures.there
    ∙ ap (without c.args.path) c.self.view_is
