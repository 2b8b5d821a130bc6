-- Four bytes of length and the bytes that they announce are there, so they are a frame.
use Rattle.std.proofs.Common.{arith}
use Rattle.eden_stream.proofs.FrameCuts.{has_frame}
use Rattle.eden_stream.proofs.cutting.measure_front.Goals as goal

pub returns : goal.returns
returns c =
    has_frame c.args.bytes.now c.given_length-size.result (λ i. omega (arith, c.type_inv.bytes i)) c.given_length-size.ensures c.if-size-gt-BODY_LIMIT.false c.if-bytes-size.false
