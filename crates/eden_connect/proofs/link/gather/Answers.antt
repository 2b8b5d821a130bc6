use Rattle.std.proofs.Common.{◌++◌, ◌∙◌, ap, subst}
use Rattle.eden_connect.proofs.Exchanging.{IsGathered, gathered_more, sized}
use Rattle.eden_connect.proofs.link.gather.Goals as goal

pub loop-request-preserved : goal.loop-request-preserved
loop-request-preserved c =
    let past = subst (λ l. IsGathered c.args.window.now c.loop-request.window c.args.requests.now l c.args.text.now.items c.loop-request.text.items)
    c.in-Some.ensures.cases.0 c.loop-request.invariant in
    let framed = c.in_ok-extend_from_slice.ensures.items ∙ ap (λ l. c.loop-request.text.items ++ l) (c.deref.ensures.value ∙ c.in_ok-frame_of.ensures) in
    gathered_more _ _ _ _ _ c.in-Some.request.now _ _ _ _ past framed (sized c.in-Some.request.now _ c.body_len-size.ensures.len) c.in_ok-add.ensures.ok
