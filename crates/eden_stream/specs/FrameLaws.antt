-- That a stream is cut into frames in one way.
use Rattle.std.specs.Prelude.{◌≡◌, ℕ, ◌⊎◌, List, ◌++◌}
use Rattle.eden_stream.specs.Frames.{IsBody, IsCut, IsPartial, IsTooLong, frame}

-- the bytes begin with no whole frame
abbrev pub HasNoFrame : List ℕ → Type 0
HasNoFrame bytes = IsPartial bytes ⊎ IsTooLong bytes

-- two cuts of one stream, each with no whole frame in its rest, are the same
abbrev pub IsCutOneWay : Type 0
IsCutOneWay = (stream : List ℕ) (bodies others : List (List ℕ)) (rest last : List ℕ) → IsCut stream bodies rest → HasNoFrame rest
    → IsCut stream others last → HasNoFrame last → (bodies ≡ others) × (rest ≡ last)

-- if the same bytes begin with two frames, they are the same, and so is what follows: no frame is a
-- proper prefix of another
abbrev pub IsPrefixFree : Type 0
IsPrefixFree = (body other more last : List ℕ) → IsBody body → IsBody other → frame body ++ more ≡ frame other ++ last → (body ≡ other) × (more ≡ last)
