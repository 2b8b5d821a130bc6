use Rattle.std.specs.Simd.Lanes.{chunk}
use Rattle.std.proofs.lemmas.Simd.{length-chunk}
use Rattle.eden_lanes.proofs.Masks.{columns_compared, five}
use Rattle.eden_lanes.proofs.Words.{each_of}
use Rattle.eden_lanes.proofs.vectors.same_eight.Goals as goal

pub returns : goal.returns
returns c =
    let a = c.args.a.now in
    let b = c.args.b.now in
    let row = c.args.row in
    five (chunk row 8 a) (chunk row 8 b) _ _ _ _ _ (length-chunk row 8 a c.requires.first) (length-chunk row 8 b c.requires.second)
    (each_of a row 8 c.words.ensures.ids) (each_of b row 8 c.words-2.ensures.ids)
    (columns_compared 0 row a b _ _ c.words.ensures.words c.words-2.ensures.words)
    (columns_compared 1 row a b _ _ c.words-3.ensures.words c.words-4.ensures.words)
    (columns_compared 2 row a b _ _ c.words-5.ensures.words c.words-6.ensures.words)
    (columns_compared 3 row a b _ _ c.words-7.ensures.words c.words-8.ensures.words)
    (columns_compared 4 row a b _ _ c.words-9.ensures.words c.words-10.ensures.words)
