use Rattle.std.proofs.Common.{arith}
use Rattle.std.proofs.lemmas.Simd.{length-chunk}
use Rattle.eden_lanes.proofs.KindLemmas.{vectors_same}
use Rattle.eden_lanes.proofs.vectors.same_thirty_two.Goals as goal

pub returns : goal.returns
returns c =
    let x = length-chunk c.args.at 32 c.args.a.now c.requires.first in
    let y = length-chunk c.args.at 32 c.args.b.now c.requires.second in
    vectors_same _ _ (omega arith) (omega arith)
