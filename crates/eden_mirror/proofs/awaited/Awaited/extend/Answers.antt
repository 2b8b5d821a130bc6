use Rattle.std.proofs.Common.{◌++◌, length, Result, Ok, Err, OnErr, sym, ap, ◌∙◌}
use Rattle.eden_messages.specs.Mirrors.{distinct}
use Rattle.eden_mirror.specs.internal.Pending.{pending}
use Rattle.eden_mirror.proofs.Pending.{fresh_again, fresh_counted, length-pending-fresh, pending-fresh}
use Rattle.eden_mirror.proofs.awaited.Awaited.extend.Goals as goal

on_any_err : {A E P : Type 0} (r : Result A E) → P → OnErr r P
on_any_err (Ok x) p = tt
on_any_err (Err x) p = p

pub add_all-requires : goal.add_all-requires
add_all-requires c = fresh_again c.self.inside.paths.entries _ c.take_answered_out.ensures

pub invariant_of-self : goal.invariant_of-self
invariant_of-self c = fresh_counted _ c.self.inside.paths.entries _ c.self.invariant (c.in_err-add_all.ensures.err ∙ c.take_answered_out.ensures)

pub returns-in_err-add_all-clause-err : goal.returns-in_err-add_all-clause-err
returns-in_err-add_all-clause-err c =
    on_any_err c.from_residual.result
    (ap pending (c.in_err-add_all.ensures.err ∙ c.take_answered_out.ensures) ∙ pending-fresh (pending c.self.inside.paths.entries) ∙ c.self.view_is)

pub invariant_of-self-2 : goal.invariant_of-self-2
invariant_of-self-2 c =
    let all = c.in_ok-add_all.ensures.ok in
    record {
      distinct = c.len-self-inside.ensures.unique;
      count = c.len-self-inside.ensures.len ∙ ap length all ∙ length-pending-fresh _ ∙ ap (λ es. length (pending es)) (sym all);
    }

pub returns-clause-ok : goal.returns-clause-ok
returns-clause-ok c =
    ap pending c.in_ok-add_all.ensures.ok ∙ pending-fresh _
    ∙ ap (λ ps. distinct (ps ++ c.args.listed.now))
    (ap pending c.take_answered_out.ensures ∙ pending-fresh (pending c.self.inside.paths.entries) ∙ c.self.view_is)
