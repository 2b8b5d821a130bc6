use Rattle.std.proofs.Common.{◌&&◌, sym, subst, ap, ◌∙◌}
use Rattle.eden_ids.specs.Paths.{components}
use Rattle.eden_globs.specs.Filters.{ends_in_any_names, path_matches, pattern_takes}
use Rattle.eden_globs.specs.internal.Compiled.{AreParts}
use Rattle.eden_globs.proofs.Parts.{any_here, any_later, any_over}
use Rattle.eden_globs.proofs.filter.has_taker.Goals as goal

pub returns-then-is_taken : goal.returns-then-is_taken
returns-then-is_taken c = λ patterns are.
    sym (any_here c.args.compiled.now patterns are (λ pattern. pattern_takes pattern c.args.directory.now) c.loop-parts.parts-index c.parts-item.result c.loop-parts-test.true c.parts-item.is
    (λ pattern of. ap (λ names. ends_in_any_names (components pattern) && path_matches (components pattern) names) (sym c.names_of-names.ensures)
    ∙ sym (c.is_taken.ensures (components pattern) (subst (λ ps. AreParts ps (components pattern)) (sym c.as_slice.ensures.value) of)) ∙ c.if-is_taken.true))
    ∙ c.loop-parts.invariant patterns are

pub loop-parts-preserved : goal.loop-parts-preserved
loop-parts-preserved c = λ patterns are.
    any_later c.args.compiled.now patterns are (λ pattern. pattern_takes pattern c.args.directory.now) c.loop-parts.parts-index c.parts-item.result c.loop-parts-test.true c.parts-item.is
    (λ pattern of. ap (λ names. ends_in_any_names (components pattern) && path_matches (components pattern) names) (sym c.names_of-names.ensures)
    ∙ sym (c.is_taken.ensures (components pattern) (subst (λ ps. AreParts ps (components pattern)) (sym c.as_slice.ensures.value) of)) ∙ c.if-is_taken.false)
    ∙ c.loop-parts.invariant patterns are

pub returns : goal.returns
returns c = λ patterns are.
    any_over c.args.compiled.now patterns are (λ pattern. pattern_takes pattern c.args.directory.now) c.loop-parts.parts-index c.loop-parts-test.false ∙ c.loop-parts.invariant patterns are
