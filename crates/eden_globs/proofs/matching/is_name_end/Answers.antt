use Rattle.std.proofs.Common.{◌≡◌, arith, length, sym, ◌∙◌}
use Rattle.eden_globs.specs.internal.Compiled.{is_run, takes}
use Rattle.eden_globs.proofs.Stretches.{whole}
use Rattle.eden_globs.proofs.matching.is_name_end.Goals as goal

pub returns : goal.returns
returns c =
    let none : length c.loop-tokens.tokens.now ≡ 0 = grind (arith, c.is_empty.ensures, c.loop-tokens-test.false) in
    sym (whole is_run takes c.loop-tokens.tokens.now c.loop-tokens.left.now none) ∙ c.loop-tokens.invariant
