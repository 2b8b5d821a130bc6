-- How a line is split into words.
use Rattle.std.specs.Prelude.{ℕ, List, [], ◌∷◌, map, Option, Some, None, ◌==◌}
use Rattle.std.specs.Option.{option_map}
use Rattle.std.specs.List.{slice_split, join_with_byte}
use Rattle.eden_script.specs.Escapes.{unescaped, escaped}

-- the word of a part of a line; an empty part is not a word
abbrev pub word_of : List ℕ → Option (List ℕ)
word_of [] = None
word_of (b ∷ bs) = unescaped (b ∷ bs)

-- all the values, or `None` if one is missing
abbrev pub all_of : List (Option (List ℕ)) → Option (List (List ℕ))
all_of [] = Some []
all_of (None ∷ others) = None
all_of (Some value ∷ others) = option_map (λ values. value ∷ values) (all_of others)

-- the words of a line, separated by single spaces, or `None` if one of the parts is not a
-- word
unfoldable pub words_of : List ℕ → Option (List (List ℕ))
words_of line = all_of (map word_of (slice_split (λ b. b == 32) line))

-- the line with these words
abbrev pub line_of : List (List ℕ) → List ℕ
line_of words = join_with_byte 32 (map escaped words)
