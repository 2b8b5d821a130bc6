use Rattle.std.proofs.Common.{◌≡◌, map, take}
use Rattle.eden_edend.proofs.questions.bytes_of.Given as goal

abbrev pub invariant-loop-word : goal.invariant-loop-word
invariant-loop-word l = map (λ b. b.now) l.bytes.items ≡ take l.word-index l.words
