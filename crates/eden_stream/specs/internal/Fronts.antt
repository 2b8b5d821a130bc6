-- What a stream of frames begins with.
use Rattle.std.specs.Prelude.{◌≡◌, ℕ, ◌+◌, ◌≤◌, List, ◌++◌, length, take, drop}
use Rattle.eden_stream.specs.Frames.{IsPartial, IsTooLong, body_limit, frame}
use Rattle.eden_stream.specs.declared.cutting.FrameFront.{FrameFront}
use Rattle.eden_stream.specs.declared.cutting.FrameFront.TheVariants.{Whole, Partial, TooLong}

-- The bytes begin with a frame whose body has this many bytes.
pub record HasFrame (bytes : List ℕ) (size : ℕ) : Type 0 where
  pub within : size ≤ body_limit
  pub room : 4 + size ≤ length bytes
  pub cut : bytes ≡ frame (take size (drop 4 bytes)) ++ drop (4 + size) bytes

-- What the bytes begin with.
abbrev pub Begins : List ℕ → FrameFront → Type 0
Begins bytes (Whole size) = HasFrame bytes size
Begins bytes Partial = IsPartial bytes
Begins bytes TooLong = IsTooLong bytes
