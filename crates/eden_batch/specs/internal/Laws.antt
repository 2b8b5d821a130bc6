-- That objects are cut as every grammar asks.
use Rattle.std.proofs.Common.{◌++◌, ap, ◌∙◌, refl, append_assoc}
use Rattle.std.specs.List.{concat}
use Rattle.eden_batch.specs.internal.Grammar.{object_grammar}
use Rattle.eden_stream.specs.Grammars.{IsGrammar}

pub object_laws : IsGrammar object_grammar
object_laws = record {
  start = refl;
  grows = λ stream items held got cut. ap (λ bytes. bytes ++ got) cut ∙ append_assoc (concat items) held got;
  ends = λ stream items held cut. cut;
}
