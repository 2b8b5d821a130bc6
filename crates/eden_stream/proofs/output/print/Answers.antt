-- What this write took is after what is written. A flush changes nothing of it.
use Rattle.std.proofs.Common.{◌-◌, length, take, drop, refl, sym, subst, arith, length-drop}
use Rattle.std.proofs.KnownBytes.{Appends-trans}
use Rattle.std.proofs.Math.Seq.{take-add}
use Rattle.std.proofs.lemmas.List.{length-take}
use Rattle.std.specs.Io.KnownBytes.{Appends}
use Rattle.eden_stream.proofs.Breaks.{rest_is}
use Rattle.eden_stream.proofs.output.print.Goals as goal

pub loop-at-preserved-in-Ok : goal.loop-at-preserved-in-Ok
loop-at-preserved-in-Ok g c =
    let text = c.args.text.now in
    let at = c.loop-at.at in
    let w1 = g.W.Write.contents c.loop-at.writer in
    let w2 = g.W.Write.contents c.write.new.self in
    let took = subst (λ part. Appends w1 w2 (take c.in-Ok.taken part)) (rest_is text text at refl) c.in-Ok.ensures.bytes in
    record {
      within = omega (arith, c.in-Ok.ensures.bound, length-take (length text - at) (drop at text), length-drop at text);
      few = omega arith;
      written = subst (Appends (g.W.Write.contents c.args.writer.now) w2) (sym (take-add at c.in-Ok.taken text))
          (Appends-trans _ w1 w2 _ _ c.loop-at.invariant.written took);
    }
