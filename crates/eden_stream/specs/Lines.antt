-- The bytes of a script as lines. `lines` itself is std's word.
use Rattle.std.specs.Prelude.{◌≡◌, ◌≢◌, ℕ, ◌<◌, ◌≤◌, ◌⊎◌, All, List, [], ◌∷◌, ◌++◌, length, Option, slice_index}
use Rattle.std.specs.Io.KnownBytes.{IsAtEnd}
use Rattle.std.specs.Str.Lines.{lines}

-- no byte ends a line
abbrev pub HasNoBreak : List ℕ → Type 0
HasNoBreak bytes = All (λ byte. byte ≢ 10) bytes

-- nothing, or bytes whose last one ends a line
abbrev pub IsWholeLines : List ℕ → Type 0
IsWholeLines bytes = (bytes ≡ []) ⊎ ((front : List ℕ) × (bytes ≡ front ++ 10 ∷ []))

-- the line begins with `#`
abbrev pub IsComment : List ℕ → Type 0
IsComment line = slice_index line 0 ≡ 35

-- the line says nothing
abbrev pub IsSkipped : List ℕ → Type 0
IsSkipped line = (line ≡ []) ⊎ IsComment line

-- the line is no comment, and is longer than a line may be
abbrev pub IsTooLong : List ℕ → Type 0
IsTooLong line = (65536 < length line) × (¬ IsComment line)

-- the line says something, and is no longer than a line may be
abbrev pub IsSpoken : List ℕ → Type 0
IsSpoken line = (0 < length line) × (¬ IsComment line) × (length line ≤ 65536)

-- These are the first lines of the bytes that were read, and each has its end; or they are all
-- lines, and the reader is at its end.
pub record AreFirstLines (r1 : Option (List ℕ)) (stream : List ℕ) (first : List (List ℕ)) : Type 0 where
  pub front : List ℕ
  pub rest : List ℕ
  pub split : stream ≡ front ++ rest
  pub first_are : first ≡ lines front
  pub ended : IsWholeLines front ⊎ ((rest ≡ []) × IsAtEnd r1)

-- The bytes that were read are these lines, and one without its end, which is too long whatever
-- follows: one more byte may be the carriage return of its end.
pub record AreBeforeLong (stream : List ℕ) (first : List (List ℕ)) (line : List ℕ) : Type 0 where
  pub front : List ℕ
  pub split : stream ≡ front ++ line
  pub first_are : first ≡ lines front
  pub ended : IsWholeLines front
  pub unended : HasNoBreak line
  pub plain : ¬ IsComment line
  pub long : 65537 < length line
