use Rattle.std.proofs.Common.{List, ◌++◌, false, drop}
use Rattle.eden_globs.specs.declared.pattern.Token.{Token}
use Rattle.eden_globs.specs.internal.Compiled.{AreTokensOf}
use Rattle.eden_globs.proofs.pattern.tokens_of.Given as goal

-- what stands for the bytes that are left makes the tokens those of all
abbrev pub invariant-loop-byte : goal.invariant-loop-byte
invariant-loop-byte l = (rest : List Token) → AreTokensOf rest l.escaped (drop l.byte-index l.text) → AreTokensOf (l.tokens.items ++ rest) false l.text
