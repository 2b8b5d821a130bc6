use Rattle.std.proofs.Common.{◌≡◌, map, take}
use Rattle.eden_globs.specs.declared.pattern.Token.TheVariants.{Byte}
use Rattle.eden_globs.proofs.pattern.bytes_of.Given as goal

abbrev pub invariant-loop-token : goal.invariant-loop-token
invariant-loop-token l = take l.token-index l.tokens ≡ map Byte l.bytes.items
