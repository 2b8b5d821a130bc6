use Rattle.std.proofs.Common.{is_some, length, sym, ap, subst, ◌∙◌, true, arith}
use Rattle.std.specs.List.{IsDistinct}
use Rattle.indexmap.proofs.CallerLemmas.{keys-with_value_at}
use Rattle.eden_ids.specs.Sameness.{same_bytes}
use Rattle.eden_messages.specs.Mirrors.{is_among, without}
use Rattle.eden_mirror.specs.internal.Pending.{pending}
use Rattle.eden_mirror.proofs.Pending.{length-without, pending-marked, pending_distinct, without-not_among}
use Rattle.eden_mirror.proofs.awaited.Awaited.take_out.Goals as goal

pub returns-in_default : goal.returns-in_default
returns-in_default c =
    let none = ap is_some c.in_default.is in
    without-not_among c.args.path.now c.args.self.now (ap (is_among c.args.path.now) (sym c.self.view_is) ∙ sym c.place.ensures.awaited ∙ none)

pub invariant_of-self : goal.invariant_of-self
invariant_of-self c =
    let es = c.self.inside.paths.entries in
    let fewer = ap length (pending-marked c.args.path.now es c.in-Some.at c.self.invariant.distinct c.in-Some.ensures.there) in
    let less = length-without c.args.path.now (pending es) (pending_distinct es c.self.invariant.distinct) (sym c.in-Some.ensures.awaited) in
    record {
      distinct = subst (IsDistinct same_bytes) (sym (keys-with_value_at c.self.inside.paths c.in-Some.at true)) c.self.invariant.distinct;
      count = omega (arith, c.self.invariant.count, less, fewer);
    }

pub returns : goal.returns
returns c =
    c.sweep.ensures
    ∙ pending-marked c.args.path.now c.self.inside.paths.entries c.in-Some.at c.self.invariant.distinct c.in-Some.ensures.there
    ∙ ap (without c.args.path.now) c.self.view_is
