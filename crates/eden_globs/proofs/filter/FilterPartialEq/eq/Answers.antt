use Rattle.std.proofs.Common.{◌&&◌, nat_eq, ap, sym, ◌∙◌}
use Rattle.std.specs.Cmp.Lexicographic.{pointwise}
use Rattle.eden_globs.proofs.Alike.{same_lists}
use Rattle.eden_globs.proofs.filter.FilterPartialEq.eq.Goals as goal

pub returns-then-eq : goal.returns-then-eq
returns-then-eq c =
    let filter = c.args.self.now in
    let other = c.args.other.now in
    c.eq-then-eq.ensures
    ∙ same_lists c.excluded.result.now c.excluded-then-eq.result.now filter.excluded other.excluded c.excluded.ensures.patterns c.excluded-then-eq.ensures.patterns
    ∙ ap (λ b. b && pointwise (pointwise nat_eq) filter.excluded other.excluded)
    (sym c.if-eq.true ∙ (c.eq.ensures ∙ same_lists c.patterns.result.now c.patterns-2.result.now filter.included other.included c.patterns.ensures.patterns c.patterns-2.ensures.patterns))

pub returns-else-eq : goal.returns-else-eq
returns-else-eq c =
    let filter = c.args.self.now in
    let other = c.args.other.now in
    c.if-eq.false
    ∙ ap (λ b. b && pointwise (pointwise nat_eq) filter.excluded other.excluded)
    (sym c.if-eq.false ∙ (c.eq.ensures ∙ same_lists c.patterns.result.now c.patterns-2.result.now filter.included other.included c.patterns.ensures.patterns c.patterns-2.ensures.patterns))
