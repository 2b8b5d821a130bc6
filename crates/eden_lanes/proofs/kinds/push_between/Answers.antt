use Rattle.std.proofs.Common.{◌++◌, ◌∷◌, [], arith, cond, get_or, nat_eq, ap, sym, ◌∙◌}
use Rattle.eden_lanes.proofs.Differing.{among-one}
use Rattle.eden_lanes.proofs.kinds.push_between.Goals as goal

pub loop-row-preserved : goal.loop-row-preserved
loop-row-preserved c =
    let a = c.args.a.now in
    let b = c.args.b.now in
    let row = c.loop-row.row in
    c.in_ok-push_unless.ensures ∙ ap (λ rows. rows ++ cond (nat_eq (get_or a row 0) (get_or b row 0)) [] (row ∷ [])) c.loop-row.invariant
    ∙ sym (among-one nat_eq row a b 0 0 (omega arith) (omega arith))
