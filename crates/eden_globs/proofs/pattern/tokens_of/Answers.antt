use Rattle.std.proofs.Common.{◌++◌, ◌+◌, drop, ap, ◌∙◌}
use Rattle.eden_globs.specs.Filters.{name_matches}
use Rattle.eden_globs.specs.internal.Compiled.{tokens_match}
use Rattle.eden_globs.proofs.Tokens.{escape_next, token_next, tokens_whole}
use Rattle.eden_globs.proofs.pattern.tokens_of.Goals as goal
use Rattle.eden_globs.proofs.pattern.tokens_of.Goals.{in-Some+in_ok-push-in-Some, in-None}

pub loop-byte-preserved : goal.loop-byte-preserved
loop-byte-preserved c = elim c.match-token_of.branch [
  | in-Some+in_ok-push-in-Some w ↦ λ rest is name.
      ap (λ ts. tokens_match (ts ++ rest) name) (ap (λ v. v.items) w.tokens-is ∙ w.in_ok-push-in-Some.ensures.items)
      ∙ token_next c.args.text.now c.loop-byte.tokens.items w.in-Some.token c.loop-byte.byte-index c.loop-byte.escaped c.loop-byte-test.true w.in-Some.ensures c.loop-byte.invariant
      rest (λ n. is n ∙ ap (λ e. name_matches e (drop (c.loop-byte.byte-index + 1) c.args.text.now) n) w.escaped-is) name
  | in-None w ↦ λ rest is name.
      ap (λ v. tokens_match (v.items ++ rest) name) w.tokens-is
      ∙ escape_next c.args.text.now c.loop-byte.tokens.items c.loop-byte.byte-index c.loop-byte.escaped c.loop-byte-test.true w.in-None.ensures.0 w.in-None.ensures.1 c.loop-byte.invariant
      rest (λ n. is n ∙ ap (λ e. name_matches e (drop (c.loop-byte.byte-index + 1) c.args.text.now) n) w.escaped-is) name
]

pub returns : goal.returns
returns c = tokens_whole c.args.text.now c.loop-byte.tokens.items c.loop-byte.escaped c.loop-byte.byte-index c.loop-byte-test.false c.loop-byte.invariant
