use Rattle.std.proofs.Common.{rules, arith, ◌≡◌, ◌<◌, length, get_or, refl}
use Rattle.eden_globs.specs.Filters.{lists}
use Rattle.eden_messages.proofs.Filters.{pattern_short, patterns_front}
use Rattle.eden_messages.proofs.lengths.len_of_patterns.Goals as goal

pub loop-pattern-preserved : goal.loop-pattern-preserved
loop-pattern-preserved c =
    let within : c.loop-pattern.pattern-index < length c.args.patterns.now = search rules in
    let at : c.pattern-item.result ≡ get_or c.args.patterns.now c.loop-pattern.pattern-index c.pattern-item.result = search rules in
    let front = patterns_front c.loop-pattern.pattern-index c.args.patterns.now c.pattern-item.result within at in
    let short =
    pattern_short c.loop-pattern.pattern-index c.args.patterns.now (lists c.args.patterns.now) c.pattern-item.result refl c.requires within at in
    (omega (arith, c.loop-pattern.invariant.0, front, c.len.ensures), omega (arith, c.loop-pattern.invariant.1, short, c.len.ensures))
