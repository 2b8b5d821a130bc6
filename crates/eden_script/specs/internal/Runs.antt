-- Runs of bytes that are written, or read, as they are.
use Rattle.std.specs.Prelude.{◌≡◌, ◌≢◌, ℕ, ◌<◌, All, List, length, slice_index, take}

-- no byte needs an escape
abbrev pub IsPlain : List ℕ → Type 0
IsPlain bytes = All (λ byte. (byte ≢ 92) × (byte ≢ 10) × (byte ≢ 32)) bytes

-- the bytes before the index, at which there is a byte too, need no escape
abbrev pub EndsPlain : List ℕ → ℕ → Type 0
EndsPlain bytes place = (place < length bytes) × IsPlain (take place bytes)

abbrev pub HasNoBackslash : List ℕ → Type 0
HasNoBackslash bytes = All (λ byte. byte ≢ 92) bytes

-- the first backslash of the bytes is at the index
pub record HasBackslashAt (bytes : List ℕ) (place : ℕ) : Type 0 where
  pub within : place < length bytes
  pub found : slice_index bytes place ≡ 92
  pub before : HasNoBackslash (take place bytes)
