use Rattle.std.proofs.Common.{◌≡◌, length}
use Rattle.std.specs.Prelude.{Some}
use Rattle.eden_script.specs.Escapes.{unescaped, followed_by}
use Rattle.eden_script.proofs.escapes.unescape.Given as goal

abbrev pub invariant-loop-place : goal.invariant-loop-place
invariant-loop-place l = unescaped l.fn.text ≡ followed_by (Some l.bytes.items) (unescaped l.rest)

abbrev pub decreases-loop-place : goal.decreases-loop-place
decreases-loop-place l = length l.rest
