-- The lines of a stream as items.
use Rattle.std.specs.Prelude.{◌≡◌, Bool, true, ℕ, ◌⊎◌, ⊤, List, [], ◌∷◌, ◌++◌}
use Rattle.std.specs.Str.Lines.{lines}
use Rattle.eden_stream.specs.Grammars.{Grammar}
use Rattle.eden_stream.specs.Lines.{AreBeforeLong, HasNoBreak, IsSkipped, IsSpoken, IsTooLong, IsWholeLines}

-- What is held of the rest of a stream: all of it, or of a comment that has not ended its first
-- byte and its last ones.
abbrev pub IsKept : List ℕ → List ℕ → Type 0
IsKept rest held = (rest ≡ held)
    ⊎ ((gone : List ℕ) × (back : List ℕ) × HasNoBreak gone × (rest ≡ 35 ∷ (gone ++ back)) × (held ≡ 35 ∷ back))

-- The stream is these lines, each with its end, and a rest.
pub record IsBehind (stream : List ℕ) (items : List (List ℕ)) (held : List ℕ) : Type 0 where
  pub whole : List ℕ
  pub rest : List ℕ
  pub split : stream ≡ whole ++ rest
  pub ends_lines : IsWholeLines whole
  pub items_are : items ≡ lines whole
  pub kept : IsKept rest held

-- the stream is these lines and a rest, or it has ended and these are its lines
abbrev pub CutsLines : Bool → List ℕ → List (List ℕ) → List ℕ → Type 0
CutsLines ended stream items held = IsBehind stream items held ⊎ ((ended ≡ true) × (held ≡ []) × (items ≡ lines stream))

-- the lines that are cut off are followed by one that is too long, with its end or without
abbrev pub IsBeforeLong : Bool → List ℕ → List (List ℕ) → Type 0
IsBeforeLong ended stream items = (line : List ℕ) × IsTooLong line
    × (((left : List ℕ) × CutsLines ended stream (items ++ line ∷ []) left) ⊎ AreBeforeLong stream items line)

abbrev pub line_grammar : Grammar ⊤
line_grammar = record {
  cut = CutsLines;
  item = IsSpoken;
  silent = IsSkipped;
  partial = λ ended held. HasNoBreak held × (ended ≡ true → held ≡ []);
  faulty = λ ended stream items held fault. IsBeforeLong ended stream items;
}
