use Rattle.std.proofs.Common.{arith, length, rules}
use Rattle.eden_wire.specs.Commands.{change}
use Rattle.eden_wire.specs.internal.Steps.{IsSmallChange}
use Rattle.eden_wire.proofs.DoLengths.{do_len, do_spells, small_is}
use Rattle.eden_wire.proofs.command.len_of_doing.Goals as goal

pub returns-in-Some-clause-spelled : goal.returns-in-Some-clause-spelled
returns-in-Some-clause-spelled c =
    let doing = c.args.doing.now in
    let small : IsSmallChange doing.change = c.if-not-is_small.ensures.0 (search rules) in
    let len = small_is c.in-Some.len (length (change.spell doing.change)) c.in-Some.ensures in
    let all = do_len doing in
    (do_spells doing c.query_law.ensures c.change_law.ensures small (omega (arith, all, len, c.if-len-le-BODY_LIMIT.true)), omega (arith, all, len))
