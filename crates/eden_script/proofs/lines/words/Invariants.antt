use Rattle.std.proofs.Common.{◌≡◌, map}
use Rattle.std.specs.Prelude.{Some}
use Rattle.eden_script.specs.Words.{word_of, all_of}
use Rattle.eden_script.proofs.lines.words.Given as goal

abbrev pub invariant-loop-part : goal.invariant-loop-part
invariant-loop-part l = all_of (map word_of (map (λ part. part.now) l.yielded)) ≡ Some l.words.items
