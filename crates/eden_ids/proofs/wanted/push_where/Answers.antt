use Rattle.std.proofs.Common.{refl, sym, ap, ◌∙◌, ◌++◌, ◌∷◌, [], take, drop}
use Rattle.std.specs.Prelude.{filter}
use denote.Param.Always.{mut_next}
use Rattle.eden_ids.proofs.Calls.{computes_on, kept_more, kept_parts, put_more, put_none}
use Rattle.eden_ids.specs.Fronts.{AddsSome}
use Rattle.eden_ids.proofs.Fronts.{on_err}
use Rattle.eden_ids.proofs.wanted.push_where.Goals as goal
use Rattle.eden_ids.proofs.wanted.push_where.Goals.{then-is_wanted+in_ok-copy+in_ok-push, else-is_wanted}

pub loop-path-preserved : goal.loop-path-preserved
loop-path-preserved g c = (
  λ always. mut_next g.F.FnMut _ _ _ _ _ c.is_wanted.ensures refl (c.loop-path.invariant.0 always),
  λ h k.
      let (going, items) = c.loop-path.invariant.1 h k in
      let (next, is) = computes_on h going c.is_wanted.ensures in
      let more = kept_more h c.args.from.now c.loop-path.path-index c.path-item.result c.is_wanted.result c.loop-path-test.true (sym c.path-item.is) is in (
        next,
        elim c.if-is_wanted.branch [
          | then-is_wanted+in_ok-copy+in_ok-push w ↦
              put_more _ _ _ _ _ _ _ items more w.if-is_wanted.true
              (ap (λ v. v.items) w.to-is ∙ w.in_ok-push.ensures.items ∙ ap (λ x. c.loop-path.to.items ++ x ∷ []) w.in_ok-copy.ensures)
          | else-is_wanted w ↦ ap (λ v. v.items) w.to-is ∙ put_none _ _ _ _ _ _ items more w.if-is_wanted.false
        ],
      ),
)

pub returns-in_err-copy-clause-err : goal.returns-in_err-copy-clause-err
returns-in_err-copy-clause-err g c = λ h k.
    let at = c.loop-path.path-index in
    let from = c.args.from.now in
    let some : AddsSome (filter h from) c.args.to.now.items c.loop-path.to.items = (filter h (take at from), filter h (drop at from), kept_parts h from at, (c.loop-path.invariant.1 h k).1) in
    on_err _ some

pub returns-in_err-push-clause-err : goal.returns-in_err-push-clause-err
returns-in_err-push-clause-err g c = λ h k.
    let at = c.loop-path.path-index in
    let from = c.args.from.now in
    let some : AddsSome (filter h from) c.args.to.now.items c.push.new.self.items =
    (filter h (take at from), filter h (drop at from), kept_parts h from at, c.in_err-push.ensures.items ∙ (c.loop-path.invariant.1 h k).1) in
    on_err _ some
