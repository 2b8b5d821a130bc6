use Rattle.std.proofs.Common.{sym, subst, ◌∙◌}
use Rattle.eden_ids.specs.Paths.{components}
use Rattle.eden_globs.specs.Filters.{pattern_matches}
use Rattle.eden_globs.specs.internal.Compiled.{AreParts}
use Rattle.eden_globs.proofs.Parts.{any_here, any_later, any_over}
use Rattle.eden_globs.proofs.filter.has_match.Goals as goal

pub returns-then-is_matched : goal.returns-then-is_matched
returns-then-is_matched c = λ patterns are.
    sym (any_here c.args.compiled.now patterns are (λ pattern. pattern_matches pattern c.args.path.now) c.loop-parts.parts-index c.parts-item.result c.loop-parts-test.true c.parts-item.is
    (λ pattern of. sym (c.is_matched.ensures (components pattern) (subst (λ ps. AreParts ps (components pattern)) (sym c.as_slice.ensures.value) of)) ∙ c.if-is_matched.true))
    ∙ c.loop-parts.invariant patterns are

pub loop-parts-preserved : goal.loop-parts-preserved
loop-parts-preserved c = λ patterns are.
    any_later c.args.compiled.now patterns are (λ pattern. pattern_matches pattern c.args.path.now) c.loop-parts.parts-index c.parts-item.result c.loop-parts-test.true c.parts-item.is
    (λ pattern of. sym (c.is_matched.ensures (components pattern) (subst (λ ps. AreParts ps (components pattern)) (sym c.as_slice.ensures.value) of)) ∙ c.if-is_matched.false)
    ∙ c.loop-parts.invariant patterns are

pub returns : goal.returns
returns c = λ patterns are.
    any_over c.args.compiled.now patterns are (λ pattern. pattern_matches pattern c.args.path.now) c.loop-parts.parts-index c.loop-parts-test.false ∙ c.loop-parts.invariant patterns are
