-- That lines are cut as every grammar asks, and that what a machine says of them is a story.
use Rattle.std.proofs.Common.{◌≡◌, true, false, inl, inr, List, [], ◌∷◌, ◌++◌, Option, Some, refl, sym, ap, ◌∙◌, append_assoc, append-nil}
use Rattle.std.specs.Prelude.{ℕ}
use Rattle.eden_stream.specs.Grammars.{IsGrammar}
use Rattle.eden_stream.specs.Lines.{IsSkipped}
use Rattle.eden_stream.specs.LineGrammar.{CutsLines, IsKept, line_grammar}
use Rattle.eden_stream.specs.Scripts.{GoesOn, IsScript, in_front}
use Rattle.eden_stream.specs.Stories.{IsStory}
use Rattle.eden_stream.specs.internal.LineSteps.{line_story}

grown : (rest held got : List ℕ) → IsKept rest held → IsKept (rest ++ got) (held ++ got)
grown rest held got (inl e) = inl (ap (λ bytes. bytes ++ got) e)
grown rest held got (inr k) =
    inr (k.0, k.1 ++ got, k.2, ap (λ bytes. bytes ++ got) k.3 ∙ ap (λ bytes. 35 ∷ bytes) (append_assoc k.0 k.1 got), ap (λ bytes. bytes ++ got) k.4)

grows : (stream : List ℕ) (items : List (List ℕ)) (held got : List ℕ) → CutsLines false stream items held → CutsLines false (stream ++ got) items (held ++ got)
grows stream items held got (inl behind) =
    inl (record {
      whole = behind.whole;
      rest = behind.rest ++ got;
      split = ap (λ bytes. bytes ++ got) behind.split ∙ append_assoc behind.whole behind.rest got;
      ends_lines = behind.ends_lines;
      items_are = behind.items_are;
      kept = grown behind.rest held got behind.kept;
    })
grows stream items held got (inr done) = absurd cc

ends : (stream : List ℕ) (items : List (List ℕ)) (held : List ℕ) → CutsLines false stream items held → CutsLines true stream items held
ends stream items held (inl behind) = inl behind
ends stream items held (inr done) = inr (refl, done.1, done.2)

pub line_laws : IsGrammar line_grammar
line_laws = record {
  start = inl (record { whole = []; rest = []; split = refl; ends_lines = inl refl; items_are = refl; kept = inl refl });
  grows = grows;
  ends = ends;
}

module _ {M : Type 0} (stands_for : M → (List (List ℕ) → Option (List ℕ)) → Type 0)
    (refused_by : M → (List (List ℕ) → Option (List ℕ)) → List ℕ → Type 0) (before now : M)
    (lawful : (script : List (List ℕ) → Option (List ℕ)) → stands_for now script → IsScript script) where
  skips_on : (script : List (List ℕ) → Option (List ℕ)) (items : List (List ℕ)) (item text : List ℕ) → IsSkipped item
      → GoesOn (stands_for now) script items text → GoesOn (stands_for now) script (items ++ item ∷ []) text
  skips_on script items item text silent on = record {
    next = on.next;
    stands = on.stands;
    goes_on = λ more. ap script (append_assoc items (item ∷ []) more) ∙ on.goes_on (item ∷ more) ∙ ap (in_front text) ((lawful on.next on.stands).skips item more silent);
  }

  prints : (script : List (List ℕ) → Option (List ℕ)) (items : List (List ℕ)) (text : List ℕ) → GoesOn (stands_for now) script items text → script items ≡ Some text
  prints script items text on =
      ap script (sym (append-nil items)) ∙ on.goes_on [] ∙ ap (in_front text) (lawful on.next on.stands).ends ∙ ap Some (append-nil text)

  pub story_laws : IsStory line_grammar (line_story stands_for refused_by before now)
  story_laws = record {
    passes = λ items item text silent told script s. skips_on script items item text silent (told script s);
    stops = λ items text told script s. prints script items text (told script s);
  }
