-- How the answering of lines ends: from a reader whose bytes go from r0 to r1, to a writer whose
-- bytes go from w0 to w1. `Says` is what is said of the lines that were answered and their text.
use Rattle.std.specs.Prelude.{◌≡◌, ℕ, ◌+◌, ◌⊎◌, ⊤, List, [], ◌∷◌, ◌++◌, length, take, Option, Result, Ok, Err}
use Rattle.std.specs.Io.KnownBytes.{Appends, Consumes, IsAtEnd}
use Rattle.std.specs.Str.Lines.{lines}
use Rattle.eden_stream.specs.Lines.{AreBeforeLong, AreFirstLines, HasNoBreak, IsTooLong, IsWholeLines}
use Rattle.eden_stream.specs.Stories.{Story}
use Rattle.eden_stream.specs.declared.lines.RunFault.{RunFault}
use Rattle.eden_stream.specs.declared.lines.RunFault.TheVariants.{BadLine, Read, Write, TurnsSpent, NoMemory}

-- Everything was read, and the text of all its lines was written.
pub record AnswersAll (Says : List (List ℕ) → List ℕ → Type 0) (r0 r1 w0 w1 : Option (List ℕ)) (count : ℕ) : Type 0 where
  pub stream : List ℕ
  pub text : List ℕ
  pub read : Consumes r0 r1 stream
  pub at_end : IsAtEnd r1
  pub says : Says (lines stream) text
  pub count_is : count ≡ length (lines stream)
  pub written : Appends w0 w1 text

-- The text of the lines before the bad one was written. The bad one was read to its end, or is too
-- long whatever follows.
pub record StopsAtBadLine (Says : List (List ℕ) → List ℕ → List ℕ → Type 0) (r0 r1 w0 w1 : Option (List ℕ)) (number : ℕ) : Type 0 where
  pub stream : List ℕ
  pub good : List (List ℕ)
  pub bad : List ℕ
  pub text : List ℕ
  pub read : Consumes r0 r1 stream
  pub judged : AreFirstLines r1 stream (good ++ bad ∷ []) ⊎ AreBeforeLong stream good bad
  pub says : Says good bad text
  pub number_is : number ≡ length good + 1
  pub written : Appends w0 w1 text

-- The text of the whole lines among the bytes that were read was written.
pub record StopsBetweenLines (Says : List (List ℕ) → List ℕ → Type 0) (r0 r1 w0 w1 : Option (List ℕ)) : Type 0 where
  pub stream : List ℕ
  pub whole : List ℕ
  pub rest : List ℕ
  pub text : List ℕ
  pub read : Consumes r0 r1 stream
  pub split : stream ≡ whole ++ rest
  pub ends_lines : IsWholeLines whole
  pub unended : HasNoBreak rest
  pub says : Says (lines whole) text
  pub written : Appends w0 w1 text

-- The text of some first lines was written.
pub record StopsAfterLines (Says : List ℕ → List (List ℕ) → List ℕ → Type 0) (r0 r1 w0 w1 : Option (List ℕ)) : Type 0 where
  pub stream : List ℕ
  pub good : List (List ℕ)
  pub text : List ℕ
  pub read : Consumes r0 r1 stream
  pub first : AreFirstLines r1 stream good
  pub says : Says stream good text
  pub written : Appends w0 w1 text

-- The first `taken` bytes of the text of some first lines were written.
pub record StopsInText (Says : List ℕ → List (List ℕ) → List ℕ → Type 0) (r0 r1 w0 w1 : Option (List ℕ)) : Type 0 where
  pub stream : List ℕ
  pub good : List (List ℕ)
  pub text : List ℕ
  pub taken : ℕ
  pub read : Consumes r0 r1 stream
  pub first : AreFirstLines r1 stream good
  pub says : Says stream good text
  pub written : Appends w0 w1 (take taken text)

-- the lines were answered with the text, and then one was refused, or is too long to be asked for
abbrev pub RefusesNext : Story ⊤ → List (List ℕ) → List ℕ → List ℕ → Type 0
RefusesNext story good bad text = (story.lost good text × story.refused good bad tt) ⊎ (story.told good text × IsTooLong bad)

-- the lines were answered with the text; the server may have been given the one after them too
abbrev pub LosesNext : Story ⊤ → Option (List ℕ) → List ℕ → List (List ℕ) → List ℕ → Type 0
LosesNext story r1 stream good text = story.lost good text
    ⊎ ((next : List ℕ) × AreFirstLines r1 stream (good ++ next ∷ []) × story.spent good next text)

-- How the answering of lines ended, by its result and the story of what answers them.
abbrev pub EndsTellingLines : Story ⊤ → Option (List ℕ) → Option (List ℕ) → Option (List ℕ) → Option (List ℕ) → Result ℕ RunFault → Type 0
EndsTellingLines story r0 r1 w0 w1 (Ok count) = AnswersAll story.told r0 r1 w0 w1 count
EndsTellingLines story r0 r1 w0 w1 (Err (BadLine number)) = StopsAtBadLine (RefusesNext story) r0 r1 w0 w1 number
EndsTellingLines story r0 r1 w0 w1 (Err Read) = StopsBetweenLines story.told r0 r1 w0 w1
EndsTellingLines story r0 r1 w0 w1 (Err TurnsSpent) = StopsBetweenLines story.told r0 r1 w0 w1
EndsTellingLines story r0 r1 w0 w1 (Err NoMemory) = StopsAfterLines (LosesNext story r1) r0 r1 w0 w1
EndsTellingLines story r0 r1 w0 w1 (Err Write) = StopsInText (LosesNext story r1) r0 r1 w0 w1
