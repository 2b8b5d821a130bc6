-- The bytes of a stream as frames: four bytes of length, the highest first, and a body of that many
-- bytes.
use Rattle.std.specs.Prelude.{◌≡◌, ℕ, ◌+◌, ◌<◌, ◌≤◌, ◌⊎◌, All, List, ◌++◌, length, take}
use Rattle.std.specs.Int.{w32, from_be_bytes, to_be_bytes}
use Rattle.std.specs.List.{flat_map}

-- the most bytes of a body: 16 MiB
abbrev pub body_limit : ℕ
body_limit = 16777216

-- the body is within the limit
abbrev pub IsBody : List ℕ → Type 0
IsBody body = length body ≤ body_limit

-- the length of the body, and the body
unfoldable pub frame : List ℕ → List ℕ
frame body = to_be_bytes w32 (length body) ++ body

-- the length of a body that the first four bytes give
unfoldable pub given_length : List ℕ → ℕ
given_length bytes = from_be_bytes w32 (take 4 bytes)

-- less than a frame: less than a length, or a length within the limit and less than its body
abbrev pub IsPartial : List ℕ → Type 0
IsPartial bytes = (length bytes < 4) ⊎ ((given_length bytes ≤ body_limit) × (length bytes < 4 + given_length bytes))

-- a length above the limit
abbrev pub IsTooLong : List ℕ → Type 0
IsTooLong bytes = (4 ≤ length bytes) × (body_limit < given_length bytes)

-- The stream is the frames of these bodies, and a rest.
pub record IsCut (stream : List ℕ) (bodies : List (List ℕ)) (rest : List ℕ) : Type 0 where
  pub whole : stream ≡ flat_map frame bodies ++ rest
  pub each : All IsBody bodies
