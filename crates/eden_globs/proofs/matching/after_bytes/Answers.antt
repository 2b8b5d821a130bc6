use Rattle.std.proofs.Common.{◌≡◌, ◌+◌, ◌-◌, List, ℕ, drop, length, take, arith, sym, ap, ◌∙◌}
use Rattle.std.proofs.lemmas.List.{drop_more}
use Rattle.std.specs.List.{slice_index_or}
use Rattle.eden_globs.specs.Filters.{some_rest}
use Rattle.eden_globs.specs.declared.pattern.Token.{Token}
use Rattle.eden_globs.specs.declared.pattern.Token.TheVariants.{Run}
use Rattle.eden_globs.specs.internal.Compiled.{is_run, takes, tokens_match}
use Rattle.eden_globs.proofs.Stretches.{any_next, ends_before, lent_from, one_next}
use Rattle.eden_globs.proofs.matching.after_bytes.Goals as goal

-- what is left of tokens and bytes, as it is lent
lent_both : (tokens : List Token) (name : List ℕ) (i j : ℕ)
    → some_rest (tokens_match (drop i tokens)) (drop j name) ≡ some_rest (tokens_match (take (length tokens - i) (drop i tokens))) (take (length name - j) (drop j name))
lent_both tokens name i j =
    ap (λ ts. some_rest (tokens_match ts) (drop j name)) (sym (lent_from tokens i))
    ∙ ap (some_rest (tokens_match (take (length tokens - i) (drop i tokens)))) (sym (lent_from name j))

pub returns-then-is_run-clause-here : goal.returns-then-is_run-clause-here
returns-then-is_run-clause-here c =
    let tokens = c.args.tokens.now in
    let name = c.args.name.now in
    let at = c.loop-at.at in
    (any_next is_run takes tokens name at (slice_index_or tokens at Run) (drop_more tokens at Run c.loop-at-test.true) (drop at name) c.loop-at.invariant.leads (sym c.is_run.ensures ∙ c.if-is_run.true)).0
    ∙ lent_both tokens name (at + 1) at

pub returns-then-is_run-clause-later : goal.returns-then-is_run-clause-later
returns-then-is_run-clause-later c =
    let tokens = c.args.tokens.now in
    let name = c.args.name.now in
    let at = c.loop-at.at in
    (any_next is_run takes tokens name at (slice_index_or tokens at Run) (drop_more tokens at Run c.loop-at-test.true) (drop at name) c.loop-at.invariant.leads (sym c.is_run.ensures ∙ c.if-is_run.true)).1
    ∙ lent_both tokens name (at + 1) at

pub loop-at-preserved : goal.loop-at-preserved
loop-at-preserved c =
    let tokens = c.args.tokens.now in
    let name = c.args.name.now in
    let at = c.loop-at.at in
    record {
      within = omega arith;
      leads = one_next is_run takes tokens name at (slice_index_or tokens at Run) (drop_more tokens at Run c.loop-at-test.true) (drop at name) c.loop-at.invariant.leads
          (sym c.is_run.ensures ∙ c.if-is_run.false) (slice_index_or name at 0) (drop (at + 1) name) (drop_more name at 0 (omega arith)) (sym c.takes.ensures ∙ c.if-not-takes.false);
    }

pub returns-then-tokens-name-clause-none : goal.returns-then-tokens-name-clause-none
returns-then-tokens-name-clause-none c = λ e.
    let tokens = c.args.tokens.now in
    let name = c.args.name.now in
    let at = c.loop-at.at in
    ends_before is_run takes tokens name at c.loop-at-test.false (drop at name) c.loop-at.invariant.leads (slice_index_or name at 0) (drop (at + 1) name) (drop_more name at 0 (omega arith))
