use Rattle.std.proofs.Common.{◌∷◌, ◌++◌, [], ap, sym, subst, ◌∙◌}
use Rattle.eden_ids.specs.Paths.{components}
use Rattle.eden_globs.specs.internal.Compiled.{AreParts}
use Rattle.eden_globs.proofs.Edges.{some_last}
use Rattle.eden_globs.proofs.Ends.{end_matched, end_refused, one_alone}
use Rattle.eden_globs.proofs.matching.is_end_matched.Goals as goal

pub returns-then-not-may_end : goal.returns-then-not-may_end
returns-then-not-may_end c = λ texts are.
    let path = c.args.path.now in
    let name = some_last path in
    end_refused c.in_ok-last.before.now c.in_ok-last.last.now name.0 (c.may_end.ensures c.if-not-may_end.true name.0 name.1) texts (components path) (subst (λ ps. AreParts ps texts) c.in_ok-last.ensures.cases.0 are) name.1

pub returns-then-not-matches : goal.returns-then-not-matches
returns-then-not-matches c = λ texts are.
    end_refused c.in_ok-last.before.now c.in_ok-last.last.now c.last_name.result.now (sym c.matches.ensures ∙ c.if-not-matches.true) texts (components c.args.path.now)
    (subst (λ ps. AreParts ps texts) c.in_ok-last.ensures.cases.0 are) c.last_name.ensures

pub returns-then-is_any_names-2 : goal.returns-then-is_any_names-2
returns-then-is_any_names-2 c = λ texts are.
    let first = c.index-before-0.result in
    let last = c.in_ok-last.last.now in
    end_matched first last c.last_name.result.now (sym c.is_any_names-then-before-eq1.ensures ∙ c.if-is_any_names-2.true) (sym c.matches.ensures ∙ c.if-not-matches.false) texts (components c.args.path.now)
    (subst (λ ps. AreParts ps texts) (c.in_ok-last.ensures.cases.0 ∙ ap (λ ps. ps ++ last ∷ []) (one_alone c.in_ok-last.before.now first c.if-before-eq1.true c.index-before-0.is)) are) c.last_name.ensures
