use Rattle.std.proofs.Common.{◌≡◌, ◌+◌, ◌∷◌, drop, rules, sym, ap, ◌∙◌}
use Rattle.std.proofs.lemmas.List.{drop_more}
use Rattle.eden_globs.specs.Filters.{some_rest}
use Rattle.eden_globs.specs.internal.Compiled.{is_any_names_part, left_of, part_matches, parts_match}
use Rattle.eden_globs.proofs.Entering.{first_part}
use Rattle.eden_globs.proofs.Stretches.{any_next, ends_before, ends_both, lent_from, one_apart, one_next}
use Rattle.eden_globs.proofs.matching.after_names.Goals as goal

pub returns-then-is_any_names-clause-later : goal.returns-then-is_any_names-clause-later
returns-then-is_any_names-clause-later c =
    let parts = c.args.parts.now in
    let at = c.loop-at.at in
    let part = c.index-parts-at.result in
    let there : drop at parts ≡ part ∷ drop (at + 1) parts = drop_more parts at part c.loop-at-test.true ∙ ap (λ p. p ∷ drop (at + 1) parts) (sym c.index-parts-at.is) in
    (any_next is_any_names_part part_matches parts (left_of c.args.path) at part there (left_of c.loop-at.left) c.loop-at.invariant.leads (sym c.is_any_names.ensures ∙ c.if-is_any_names.true)).1
    ∙ ap (λ ps. some_rest (parts_match ps) (left_of c.loop-at.left)) (sym (lent_from parts (at + 1)))

pub returns-then-not-may_begin-clause-none : goal.returns-then-not-may_begin-clause-none
returns-then-not-may_begin-clause-none c = λ e.
    let parts = c.args.parts.now in
    let at = c.loop-at.at in
    let part = c.index-parts-at.result in
    let there : drop at parts ≡ part ∷ drop (at + 1) parts = drop_more parts at part c.loop-at-test.true ∙ ap (λ p. p ∷ drop (at + 1) parts) (sym c.index-parts-at.is) in
    let first = first_part c.in-Some.names.now in
    one_apart is_any_names_part part_matches parts (left_of c.args.path) at part there (left_of c.loop-at.left) c.loop-at.invariant.leads
    (sym c.is_any_names.ensures ∙ c.if-is_any_names.false) first.0 first.1.0 (ap left_of c.in-Some.is ∙ first.1.1) (c.may_begin.ensures c.if-not-may_begin.true first.0 first.1.0 first.1.1)

pub loop-at-preserved : goal.loop-at-preserved
loop-at-preserved c =
    let parts = c.args.parts.now in
    let at = c.loop-at.at in
    let part = c.index-parts-at.result in
    let there : drop at parts ≡ part ∷ drop (at + 1) parts = drop_more parts at part c.loop-at-test.true ∙ ap (λ p. p ∷ drop (at + 1) parts) (sym c.index-parts-at.is) in
    record {
      shorter = search rules;
      leads = one_next is_any_names_part part_matches parts (left_of c.args.path) at part there (left_of c.loop-at.left) c.loop-at.invariant.leads
          (sym c.is_any_names.ensures ∙ c.if-is_any_names.false) c.cut.result.0.now (left_of c.cut.result.1) (ap left_of c.in-Some.is ∙ c.cut.ensures.parts) (sym c.matches.ensures ∙ c.if-not-matches.false);
    }

pub returns-in-Some-left-clause-none : goal.returns-in-Some-left-clause-none
returns-in-Some-left-clause-none c = λ e.
    let parts = c.args.parts.now in
    let more = first_part c.in-Some-left.field-0.now in
    ends_before is_any_names_part part_matches parts (left_of c.args.path) c.loop-at.at c.loop-at-test.false (left_of c.loop-at.left) c.loop-at.invariant.leads more.0 more.1.0 (ap left_of c.in-Some-left.is ∙ more.1.1)

pub returns-in-None-clause-later : goal.returns-in-None-clause-later
returns-in-None-clause-later c =
    (ends_both is_any_names_part part_matches c.args.parts.now (left_of c.args.path) c.loop-at.at c.loop-at-test.false (left_of c.loop-at.left) c.loop-at.invariant.leads (ap left_of c.in-None.is)).1
