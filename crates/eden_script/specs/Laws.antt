-- What holds of every text that is written and read.
use Rattle.std.specs.Prelude.{ℕ, List, [], ◌≡◌, ◌≢◌, ◌<◌, ◌^◌, ◌==◌, Some, false, length, decimal}
use Rattle.std.specs.List.{list_any}
use Rattle.eden_script.specs.Escapes.{escaped, unescaped}
use Rattle.eden_script.specs.Words.{words_of, line_of}
use Rattle.eden_git.specs.Numbers.{number_of}

-- what was written is read as the same bytes
abbrev pub EscapesAreUndone : Type 0
EscapesAreUndone = (bytes : List ℕ) → unescaped (escaped bytes) ≡ Some bytes

-- what was written has no space and no line feed, and is not empty
abbrev pub EscapedIsOneWord : Type 0
EscapedIsOneWord = (bytes : List ℕ) →
    (list_any (λ b. b == 32) (escaped bytes) ≡ false) × (list_any (λ b. b == 10) (escaped bytes) ≡ false) × (0 < length (escaped bytes))

-- a line of written words is read as exactly these words
abbrev pub LinesAreReadBack : Type 0
LinesAreReadBack = (words : List (List ℕ)) → words ≢ [] → words_of (line_of words) ≡ Some words

-- such a line has no line feed
abbrev pub LinesHaveNoLineFeed : Type 0
LinesHaveNoLineFeed = (words : List (List ℕ)) → list_any (λ b. b == 10) (line_of words) ≡ false

-- a number is read back from its decimal text
abbrev pub NumbersAreReadBack : Type 0
NumbersAreReadBack = (n : ℕ) → n < 2 ^ 64 → number_of (decimal n) ≡ Some n

-- a number has no text but its decimal one
abbrev pub NumbersHaveOneText : Type 0
NumbersHaveOneText = (word : List ℕ) (n : ℕ) → number_of word ≡ Some n → word ≡ decimal n

-- a decimal text needs no escapes
abbrev pub DecimalsAreNotEscaped : Type 0
DecimalsAreNotEscaped = (n : ℕ) → n < 2 ^ 64 → escaped (decimal n) ≡ decimal n
