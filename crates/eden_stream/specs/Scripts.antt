-- What a script is: for any list of lines the text that they print, or None where one of them can't
-- be read.
use Rattle.std.specs.Prelude.{◌≡◌, ℕ, List, [], ◌∷◌, ◌++◌, Option, None, Some}
use Rattle.eden_stream.specs.Lines.{IsSkipped, IsTooLong}

-- a text with `printed` put in front, where there is one
abbrev pub in_front : List ℕ → Option (List ℕ) → Option (List ℕ)
in_front printed None = None
in_front printed (Some text) = Some (printed ++ text)

-- What every script does with no line, with a line that says nothing, and with one that is too
-- long.
pub record IsScript (script : List (List ℕ) → Option (List ℕ)) : Type 0 where
  pub ends : script [] ≡ Some []
  pub skips : (line : List ℕ) (more : List (List ℕ)) → IsSkipped line → script (line ∷ more) ≡ script more
  pub bounded : (line : List ℕ) (more : List (List ℕ)) → IsTooLong line → script (line ∷ more) ≡ None

-- After these lines, which print this text, the script goes on as one of which this is said.
pub record GoesOn (Says : (List (List ℕ) → Option (List ℕ)) → Type 0) (script : List (List ℕ) → Option (List ℕ)) (lines : List (List ℕ)) (text : List ℕ) : Type 0 where
  pub next : List (List ℕ) → Option (List ℕ)
  pub stands : Says next
  pub goes_on : (more : List (List ℕ)) → script (lines ++ more) ≡ in_front text (next more)
