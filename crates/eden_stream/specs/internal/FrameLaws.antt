-- That frames are cut as every grammar asks.
use Rattle.std.proofs.Common.{◌++◌, ap, ◌∙◌, refl, append_assoc}
use Rattle.std.proofs.lemmas.List.Elements.{All-nil}
use Rattle.std.specs.List.{flat_map}
use Rattle.eden_stream.specs.FrameGrammar.{frame_grammar}
use Rattle.eden_stream.specs.Frames.{IsBody, frame}
use Rattle.eden_stream.specs.Grammars.{IsGrammar}

pub frame_laws : IsGrammar frame_grammar
frame_laws = record {
  start = record { whole = refl; each = All-nil IsBody };
  grows = λ stream bodies held got cut. record {
    whole = ap (λ bytes. bytes ++ got) cut.whole ∙ append_assoc (flat_map frame bodies) held got;
    each = cut.each;
  };
  ends = λ stream bodies held cut. cut;
}
