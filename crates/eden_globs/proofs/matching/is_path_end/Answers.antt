use Rattle.std.proofs.Common.{◌≡◌, arith, length, sym, ◌∙◌}
use Rattle.eden_globs.specs.internal.Compiled.{is_any_names_part, left_of, part_matches}
use Rattle.eden_globs.proofs.Stretches.{whole}
use Rattle.eden_globs.proofs.matching.is_path_end.Goals as goal

pub returns : goal.returns
returns c =
    let none : length c.loop-parts.parts.now ≡ 0 = grind (arith, c.is_empty.ensures, c.loop-parts-test.false) in
    sym (whole is_any_names_part part_matches c.loop-parts.parts.now (left_of c.loop-parts.left) none) ∙ c.loop-parts.invariant
