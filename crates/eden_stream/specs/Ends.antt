-- How a run of a script's lines ends: from a reader whose bytes go from r0 to r1, to a writer whose
-- bytes go from w0 to w1.
use Rattle.std.specs.Prelude.{◌≡◌, ℕ, ◌⊎◌, List, [], ◌∷◌, ◌++◌, Option, None, Some, Result, Ok, Err}
use Rattle.eden_stream.specs.Lines.{IsTooLong}
use Rattle.eden_stream.specs.LineEnds.{AnswersAll, StopsAfterLines, StopsAtBadLine, StopsBetweenLines, StopsInText}
use Rattle.eden_stream.specs.Scripts.{GoesOn}
use Rattle.eden_stream.specs.declared.lines.RunFault.{RunFault}
use Rattle.eden_stream.specs.declared.lines.RunFault.TheVariants.{BadLine, Read, Write, TurnsSpent, NoMemory}

-- The lines print the text, and after them the script can't read the bad one.
pub record CantRead (script : List (List ℕ) → Option (List ℕ)) (good : List (List ℕ)) (bad text : List ℕ) : Type 0 where
  pub prints : script good ≡ Some text
  pub refused : script (good ++ bad ∷ []) ≡ None

-- everything was read, and all that its lines print was written
abbrev pub EndsWell : (List (List ℕ) → Option (List ℕ)) → Option (List ℕ) → Option (List ℕ) → Option (List ℕ) → Option (List ℕ) → ℕ → Type 0
EndsWell script r0 r1 w0 w1 count = AnswersAll (λ lines text. script lines ≡ Some text) r0 r1 w0 w1 count

-- all that the lines before the bad one print was written
abbrev pub EndsAtBadLine : (List (List ℕ) → Option (List ℕ)) → Option (List ℕ) → Option (List ℕ) → Option (List ℕ) → Option (List ℕ) → ℕ → Type 0
EndsAtBadLine script r0 r1 w0 w1 number = StopsAtBadLine (CantRead script) r0 r1 w0 w1 number

-- all that the whole lines among the bytes that were read print was written
abbrev pub EndsBetweenLines : (List (List ℕ) → Option (List ℕ)) → Option (List ℕ) → Option (List ℕ) → Option (List ℕ) → Option (List ℕ) → Type 0
EndsBetweenLines script r0 r1 w0 w1 = StopsBetweenLines (λ lines text. script lines ≡ Some text) r0 r1 w0 w1

-- all that some first lines print was written
abbrev pub EndsEarly : (List (List ℕ) → Option (List ℕ)) → Option (List ℕ) → Option (List ℕ) → Option (List ℕ) → Option (List ℕ) → Type 0
EndsEarly script r0 r1 w0 w1 = StopsAfterLines (λ _ lines text. script lines ≡ Some text) r0 r1 w0 w1

-- some first bytes of what some first lines print were written
abbrev pub EndsTorn : (List (List ℕ) → Option (List ℕ)) → Option (List ℕ) → Option (List ℕ) → Option (List ℕ) → Option (List ℕ) → Type 0
EndsTorn script r0 r1 w0 w1 = StopsInText (λ _ lines text. script lines ≡ Some text) r0 r1 w0 w1

-- How a run ended, by its result.
abbrev pub Ends : (List (List ℕ) → Option (List ℕ)) → Option (List ℕ) → Option (List ℕ) → Option (List ℕ) → Option (List ℕ) → Result ℕ RunFault → Type 0
Ends script r0 r1 w0 w1 (Ok count) = EndsWell script r0 r1 w0 w1 count
Ends script r0 r1 w0 w1 (Err (BadLine number)) = EndsAtBadLine script r0 r1 w0 w1 number
Ends script r0 r1 w0 w1 (Err Read) = EndsBetweenLines script r0 r1 w0 w1
Ends script r0 r1 w0 w1 (Err TurnsSpent) = EndsBetweenLines script r0 r1 w0 w1
Ends script r0 r1 w0 w1 (Err NoMemory) = EndsEarly script r0 r1 w0 w1
Ends script r0 r1 w0 w1 (Err Write) = EndsTorn script r0 r1 w0 w1

-- So it is where a machine ran it, which goes on as a script that it stands for, and was given the
-- bad line last; or that was too long for it.
pub record LeavesMachine (stands_now : (List (List ℕ) → Option (List ℕ)) → Type 0) (refused_now : (List (List ℕ) → Option (List ℕ)) → List ℕ → Type 0)
    (script : List (List ℕ) → Option (List ℕ)) (good : List (List ℕ)) (bad text : List ℕ) : Type 0 where
  pub reads : CantRead script good bad text
  pub goes_on : GoesOn (λ next. refused_now next bad ⊎ (stands_now next × IsTooLong bad)) script good text
