-- The story of the lines that change what was opened.
use Rattle.std.proofs.Common.{◌≡◌, None, List, [], ◌∷◌, ◌++◌, inl, refl, subst}
use Rattle.std.specs.Prelude.{ℕ, ⊤, ◌⊎◌, Result, Ok, Err}
use Rattle.eden_history.specs.declared.change.Change.{Change}
use Rattle.eden_script.specs.declared.label.Binding.{Binding}
use Rattle.eden_stream.specs.LineGrammar.{line_grammar}
use Rattle.eden_stream.specs.Lines.{IsSpoken}
use Rattle.eden_stream.specs.Stories.{IsStory, Story}
use Rattle.eden_stream.specs.declared.lines.RunFault.{RunFault}
use Rattle.eden_stream.specs.declared.lines.RunFault.TheVariants.{BadLine}
use Rattle.eden_edend.specs.Changings.{Along, LineMakes, LosesRead, change_read, number_after}

abbrev pub changing_story : {C : Type 0} → (C → Change → C → Type 0) → (C → Change → C → Type 0) → List Binding → C → C → Story ⊤
changing_story {C} made lost labels before now = record {
  told = λ lines text. Along (LineMakes made labels) lines before now;
  lost = λ lines text. Along (LineMakes made labels) lines before now;
  refused = λ lines line fault. IsSpoken line × (change_read line ≡ None);
  spent = λ lines line text. (mid : C) × Along (LineMakes made labels) lines before mid × ((now ≡ mid) ⊎ LosesRead lost labels line mid now);
}

-- one line more
pub along_more : {C : Type 0} (step : List ℕ → C → C → Type 0) (lines : List (List ℕ)) (line : List ℕ) (old mid new : C) → Along step lines old mid → step line mid new
    → Along step (lines ++ line ∷ []) old new
along_more step [] line old mid new same makes = (new, subst (λ state. step line state new) same makes, refl)
along_more step (first ∷ lines) line old mid new along makes = (along.0, along.1, along_more step lines line along.0 mid new along.2 makes)

pub changing_laws : {C : Type 0} (made lost : C → Change → C → Type 0) (labels : List Binding) (before now : C) → IsStory line_grammar (changing_story made lost labels before now)
changing_laws made lost labels before now = record {
  passes = λ lines line text silent told. along_more (LineMakes made labels) lines line before now now told (inl (silent, refl));
  stops = λ lines text told. told;
}

-- a result with the numbers of lines counted on from this one
abbrev pub numbered : ℕ → Result ℕ RunFault → Result ℕ RunFault
numbered from (Ok count) = Ok (number_after from count)
numbered from (Err (BadLine line)) = Err (BadLine (number_after from line))
numbered from (Err fault) = Err fault
