use Rattle.std.proofs.Common.{arith, sym}
use Rattle.eden_globs.proofs.Entering.{names_below}
use Rattle.eden_globs.proofs.filter.names_of.Goals as goal

pub returns : goal.returns
returns c = sym (names_below c.args.directory.now (grind (arith, c.is_empty.ensures, c.if-is_empty.false)))
