use Rattle.std.proofs.Common.{◌+◌, ◌&&◌, ◌∷◌, [], drop, sym, ap, ◌∙◌}
use Rattle.eden_globs.specs.Filters.{parts_enter}
use Rattle.eden_globs.specs.internal.Compiled.{left_of}
use Rattle.eden_globs.proofs.Parts.{enters_any, enters_named, part_at, texts_over}
use Rattle.eden_globs.proofs.matching.is_entered.Goals as goal

pub returns-in_default : goal.returns-in_default
returns-in_default c = λ texts are.
    let here = part_at c.args.parts.now texts are c.loop-part.part-index c.part-item.result c.loop-part-test.true c.part-item.is in
    ap (λ ts. parts_enter ts []) (sym here.1.0) ∙ ap (λ o. parts_enter (drop c.loop-part.part-index texts) (left_of o)) (sym c.in_default.is) ∙ c.loop-part.invariant texts are

pub returns-then-is_any_names : goal.returns-then-is_any_names
returns-then-is_any_names c = λ texts are.
    let here = part_at c.args.parts.now texts are c.loop-part.part-index c.part-item.result c.loop-part-test.true c.part-item.is in
    sym (enters_any c.part-item.result here.0 (drop (c.loop-part.part-index + 1) texts) (left_of c.loop-part.left) here.1.1 (sym c.is_any_names.ensures ∙ c.if-is_any_names.true))
    ∙ ap (λ ts. parts_enter ts (left_of c.loop-part.left)) (sym here.1.0) ∙ c.loop-part.invariant texts are

pub returns-then-not-matches : goal.returns-then-not-matches
returns-then-not-matches c = λ texts are.
    let here = part_at c.args.parts.now texts are c.loop-part.part-index c.part-item.result c.loop-part-test.true c.part-item.is in
    let more = drop (c.loop-part.part-index + 1) texts in
    sym (ap (λ b. b && parts_enter more (left_of c.cut.result.1)) (sym c.matches.ensures ∙ c.if-not-matches.true))
    ∙ sym (enters_named c.part-item.result here.0 more c.cut.result.0.now (left_of c.cut.result.1) here.1.1 (sym c.is_any_names.ensures ∙ c.if-is_any_names.false))
    ∙ ap (parts_enter (here.0 ∷ more)) (sym c.cut.ensures.parts) ∙ ap (λ o. parts_enter (here.0 ∷ more) (left_of o)) (sym c.in-Some.is)
    ∙ ap (λ ts. parts_enter ts (left_of c.loop-part.left)) (sym here.1.0) ∙ c.loop-part.invariant texts are

pub loop-part-preserved : goal.loop-part-preserved
loop-part-preserved c = λ texts are.
    let here = part_at c.args.parts.now texts are c.loop-part.part-index c.part-item.result c.loop-part-test.true c.part-item.is in
    let more = drop (c.loop-part.part-index + 1) texts in
    sym (ap (λ b. b && parts_enter more (left_of c.cut.result.1)) (sym c.matches.ensures ∙ c.if-not-matches.false))
    ∙ sym (enters_named c.part-item.result here.0 more c.cut.result.0.now (left_of c.cut.result.1) here.1.1 (sym c.is_any_names.ensures ∙ c.if-is_any_names.false))
    ∙ ap (parts_enter (here.0 ∷ more)) (sym c.cut.ensures.parts) ∙ ap (λ o. parts_enter (here.0 ∷ more) (left_of o)) (sym c.in-Some.is)
    ∙ ap (λ ts. parts_enter ts (left_of c.loop-part.left)) (sym here.1.0) ∙ c.loop-part.invariant texts are

pub returns : goal.returns
returns c = λ texts are.
    ap (λ ts. parts_enter ts (left_of c.loop-part.left)) (sym (texts_over c.args.parts.now texts are c.loop-part.part-index c.loop-part-test.false)) ∙ c.loop-part.invariant texts are
