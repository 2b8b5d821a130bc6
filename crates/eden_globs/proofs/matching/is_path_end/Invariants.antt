use Rattle.std.proofs.Common.{◌≡◌, ◌+◌, length}
use Rattle.eden_globs.specs.Filters.{some_rest}
use Rattle.eden_globs.specs.internal.Compiled.{left_length, left_of, parts_match}
use Rattle.eden_globs.proofs.matching.is_path_end.Given as goal

abbrev pub invariant-loop-parts : goal.invariant-loop-parts
invariant-loop-parts l = some_rest (parts_match l.parts) (left_of l.left) ≡ some_rest (parts_match l.fn.parts) (left_of l.path)

abbrev pub decreases-loop-parts : goal.decreases-loop-parts
decreases-loop-parts l = length l.parts + left_length l.left
