-- The first line that is held, which has its end.
use Rattle.std.proofs.Common.{◌+◌, take, sym, ap, ◌∙◌, subst}
use Rattle.std.specs.Str.Lines.{strip_carriage_return}
use Rattle.eden_stream.specs.internal.LineSteps.{FindsLine, Judges}
use Rattle.eden_stream.proofs.LineFinds.{found_whole}
use Rattle.eden_stream.proofs.lines.next_line.Goals as goal

pub returns-in-Some : goal.returns-in-Some
returns-in-Some c =
    let held = c.args.held.now in
    let end = c.in-Some.end in
    let line = c.without_return.ensures ∙ ap (λ bytes. strip_carriage_return (take end bytes)) (c.as_slice.ensures ∙ c.in-Some.ensures.same) in
    subst (λ now. FindsLine c.args.ended held now c.item_at_front.result) (sym c.in-Some.ensures.same)
    (found_whole c.args.ended held end c.item_at_front.result c.in-Some.ensures.found (subst (λ bytes. Judges bytes (end + 1) c.item_at_front.result) line c.item_at_front.ensures))
