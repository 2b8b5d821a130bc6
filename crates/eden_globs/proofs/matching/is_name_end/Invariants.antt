use Rattle.std.proofs.Common.{◌≡◌, ◌+◌, length}
use Rattle.eden_globs.specs.Filters.{some_rest}
use Rattle.eden_globs.specs.internal.Compiled.{tokens_match}
use Rattle.eden_globs.proofs.matching.is_name_end.Given as goal

abbrev pub invariant-loop-tokens : goal.invariant-loop-tokens
invariant-loop-tokens l = some_rest (tokens_match l.tokens) l.left ≡ some_rest (tokens_match l.fn.tokens) l.name

abbrev pub decreases-loop-tokens : goal.decreases-loop-tokens
decreases-loop-tokens l = length l.tokens + length l.left
