-- What the lines of an input change after `listen`. `made` is what a change makes of what is
-- changed, and `lost` what is known of that after a change for which there was no memory.
use Rattle.std.specs.Prelude.{◌≡◌, ◌⊎◌, ℕ, ◌+◌, ◌-◌, ◌^◌, min, List, [], ◌∷◌, ◌++◌, length, Option, None, Some, Result, Ok, Err, option_and_then}
use Rattle.std.specs.Io.KnownBytes.{Consumes, IsAtEnd}
use Rattle.std.specs.Str.Lines.{lines}
use Rattle.eden_history.specs.declared.change.Change.{Change}
use Rattle.eden_script.specs.declared.command.ChangeLine.{ChangeLine}
use Rattle.eden_script.specs.declared.command.Command.{Command}
use Rattle.eden_script.specs.declared.command.Command.TheVariants as line
use Rattle.eden_script.specs.declared.label.Binding.{Binding}
use Rattle.eden_script.specs.declared.told.Refusal.{Refusal}
use Rattle.eden_script.specs.ScriptLines.{command_of}
use Rattle.eden_script.specs.Sessions.{change_of}
use Rattle.eden_script.specs.Words.{words_of}
use Rattle.eden_stream.specs.Lines.{AreBeforeLong, AreFirstLines, HasNoBreak, IsSkipped, IsSpoken, IsTooLong, IsWholeLines}
use Rattle.eden_stream.specs.declared.lines.RunFault.{RunFault}
use Rattle.eden_stream.specs.declared.lines.RunFault.TheVariants.{BadLine, Read, Write, TurnsSpent, NoMemory}

-- from the old to the new by a step for each line, in order
abbrev pub Along : {C : Type 0} → (List ℕ → C → C → Type 0) → List (List ℕ) → C → C → Type 0
Along step [] old new = new ≡ old
Along {C} step (line ∷ lines) old new = (mid : C) × step line old mid × Along step lines mid new

-- ---- one line

-- what a line changes, if it is one that changes a mount
abbrev pub change_in : Command → Option ChangeLine
change_in (line.Change change) = Some change
change_in other = None

abbrev pub change_read : List ℕ → Option ChangeLine
change_read line = option_and_then change_in (option_and_then command_of (words_of line))

-- The change is made; a line that is refused before the mount is asked makes nothing.
abbrev pub Makes : {C : Type 0} → (C → Change → C → Type 0) → Result Change Refusal → C → C → Type 0
Makes made (Ok change) old new = made old change new
Makes made (Err cause) old new = new ≡ old

-- The line makes what it spells by these labels.
pub record MakesRead {C : Type 0} (made : C → Change → C → Type 0) (labels : List Binding) (line : List ℕ) (old new : C) : Type 0 where
  pub change : ChangeLine
  pub spoken : IsSpoken line
  pub read : change_read line ≡ Some change
  pub makes : Makes made (change_of labels change) old new

-- a line that says nothing changes nothing
abbrev pub LineMakes : {C : Type 0} → (C → Change → C → Type 0) → List Binding → List ℕ → C → C → Type 0
LineMakes made labels line old new = (IsSkipped line × (new ≡ old)) ⊎ MakesRead made labels line old new

-- the line is not empty, and changes no mount, or is too long to
abbrev pub ChangesNoMount : List ℕ → Type 0
ChangesNoMount line = (IsSpoken line × (change_read line ≡ None)) ⊎ IsTooLong line

-- there was no memory for the change
abbrev pub Loses : {C : Type 0} → (C → Change → C → Type 0) → Result Change Refusal → C → C → Type 0
Loses lost (Ok change) old new = lost old change new
Loses lost (Err cause) old new = ⊥

-- There was no memory for what the line spells by these labels.
pub record LosesRead {C : Type 0} (lost : C → Change → C → Type 0) (labels : List Binding) (line : List ℕ) (old new : C) : Type 0 where
  pub change : ChangeLine
  pub read : change_read line ≡ Some change
  pub loses : Loses lost (change_of labels change) old new

-- ---- how the changing ends, by the bytes of the input before and after it, and by the number of
-- the line before

-- the number of the line that comes `count` after the one of this number; it stops at the largest
-- u64
abbrev pub number_after : ℕ → ℕ → ℕ
number_after from count = min (from + count) (2 ^ 64 - 1)

-- Everything was read, and the changes of all lines were made.
pub record ChangesAll {C : Type 0} (step : List ℕ → C → C → Type 0) (from : ℕ) (r0 r1 : Option (List ℕ)) (old new : C) (number : ℕ) : Type 0 where
  pub stream : List ℕ
  pub read : Consumes r0 r1 stream
  pub at_end : IsAtEnd r1
  pub along : Along step (lines stream) old new
  pub number_is : number ≡ number_after from (length (lines stream))

-- The changes of the lines before the bad one were made. That was read to its end, or is too long
-- whatever follows.
pub record ChangesToBadLine {C : Type 0} (step : List ℕ → C → C → Type 0) (from : ℕ) (r0 r1 : Option (List ℕ)) (old new : C) (number : ℕ) : Type 0 where
  pub stream : List ℕ
  pub good : List (List ℕ)
  pub bad : List ℕ
  pub read : Consumes r0 r1 stream
  pub judged : AreFirstLines r1 stream (good ++ bad ∷ []) ⊎ AreBeforeLong stream good bad
  pub along : Along step good old new
  pub refused : ChangesNoMount bad
  pub number_is : number ≡ number_after from (length good + 1)

-- The changes of the whole lines among the bytes that were read were made.
pub record ChangesBetweenLines {C : Type 0} (step : List ℕ → C → C → Type 0) (r0 r1 : Option (List ℕ)) (old new : C) : Type 0 where
  pub stream : List ℕ
  pub whole : List ℕ
  pub rest : List ℕ
  pub read : Consumes r0 r1 stream
  pub split : stream ≡ whole ++ rest
  pub ends_lines : IsWholeLines whole
  pub unended : HasNoBreak rest
  pub along : Along step (lines whole) old new

-- The changes of some first lines were made, and that of the next one may have been asked for.
pub record ChangesSome {C : Type 0} (step losing : List ℕ → C → C → Type 0) (r0 r1 : Option (List ℕ)) (old new : C) : Type 0 where
  pub stream : List ℕ
  pub good : List (List ℕ)
  pub mid : C
  pub read : Consumes r0 r1 stream
  pub first : AreFirstLines r1 stream good
  pub along : Along step good old mid
  pub last : (new ≡ mid) ⊎ ((next : List ℕ) × AreFirstLines r1 stream (good ++ next ∷ []) × losing next mid new)

-- How the changing ended, by its result. Nothing is written, so no write fails.
abbrev pub EndsChanging : {C : Type 0} → (C → Change → C → Type 0) → (C → Change → C → Type 0) → List Binding → ℕ → Option (List ℕ) → Option (List ℕ) → C → C → Result ℕ RunFault → Type 0
EndsChanging made lost labels from r0 r1 old new (Ok number) = ChangesAll (LineMakes made labels) from r0 r1 old new number
EndsChanging made lost labels from r0 r1 old new (Err (BadLine number)) = ChangesToBadLine (LineMakes made labels) from r0 r1 old new number
EndsChanging made lost labels from r0 r1 old new (Err Read) = ChangesBetweenLines (LineMakes made labels) r0 r1 old new
EndsChanging made lost labels from r0 r1 old new (Err TurnsSpent) = ChangesBetweenLines (LineMakes made labels) r0 r1 old new
EndsChanging made lost labels from r0 r1 old new (Err NoMemory) = ChangesSome (LineMakes made labels) (LosesRead lost labels) r0 r1 old new
EndsChanging made lost labels from r0 r1 old new (Err Write) = ⊥
