-- How the serving of frames ends: from a reader whose bytes go from r0 to r1, to a writer whose
-- bytes go from w0 to w1. What is answered to a body depends on the bodies before it, and so does
-- how the server is left.
use Rattle.std.specs.Prelude.{◌≡◌, ℕ, ◌+◌, ◌<◌, ◌⊎◌, List, [], ◌∷◌, ◌++◌, length, take, Option, Result, Ok, Err}
use Rattle.std.specs.Io.KnownBytes.{Appends, Consumes, IsAtEnd}
use Rattle.eden_stream.specs.Frames.{IsBody, IsCut, IsPartial, IsTooLong, frame}
use Rattle.eden_stream.specs.FrameAnswers.{Answering, HaveReplies, replies}
use Rattle.eden_stream.specs.declared.frame_fault.FrameFault.{FrameFault}
use Rattle.eden_stream.specs.declared.frame_fault.FrameFault.TheVariants.{CutShort, TooLarge}
use Rattle.eden_stream.specs.declared.frames.ServeFault.{ServeFault}
use Rattle.eden_stream.specs.declared.frames.ServeFault.TheVariants.{Frame, Read, Write, TurnsSpent, NoMemory}

-- What was read is the frames of these bodies, each of which has a reply, and a rest.
pub record ReadsFrames (answers : Answering) (r0 r1 : Option (List ℕ)) (bodies : List (List ℕ)) (rest : List ℕ) : Type 0 where
  pub stream : List ℕ
  pub read : Consumes r0 r1 stream
  pub cut : IsCut stream bodies rest
  pub replied : HaveReplies answers bodies

-- The bytes begin with the frame of a body that can't be read.
pub record HasBadBody (answers : List ℕ → Result (List ℕ) FrameFault) (bytes : List ℕ) (fault : FrameFault) : Type 0 where
  pub body : List ℕ
  pub more : List ℕ
  pub within : IsBody body
  pub cut : bytes ≡ frame body ++ more
  pub refused : answers body ≡ Err fault

-- the bytes begin with the fault: a length above the limit, or a body that can't be read
abbrev pub IsFaulty : (List ℕ → Result (List ℕ) FrameFault) → List ℕ → FrameFault → Type 0
IsFaulty answers bytes fault = (IsTooLong bytes × (fault ≡ TooLarge)) ⊎ HasBadBody answers bytes fault

-- the bytes are some of a frame and not all, and no more will come
abbrev pub IsCutShort : Option (List ℕ) → List ℕ → FrameFault → Type 0
IsCutShort r1 bytes fault = IsAtEnd r1 × IsPartial bytes × (0 < length bytes) × (fault ≡ CutShort)

-- The server is left as after the body of the next frame too, of which nothing was written.
pub record LeavesNext (left : List (List ℕ) → Type 0) (rest : List ℕ) (bodies : List (List ℕ)) : Type 0 where
  pub body : List ℕ
  pub more : List ℕ
  pub within : IsBody body
  pub cut : rest ≡ frame body ++ more
  pub leaves : left (bodies ++ body ∷ [])

-- Everything was read and is whole frames, and the replies to all of them were written.
pub record ServesAll (answers : Answering) (left : List (List ℕ) → Type 0) (r0 r1 w0 w1 : Option (List ℕ)) (count : ℕ) : Type 0 where
  pub bodies : List (List ℕ)
  pub front : ReadsFrames answers r0 r1 bodies []
  pub at_end : IsAtEnd r1
  pub count_is : count ≡ length bodies
  pub written : Appends w0 w1 (replies answers bodies)
  pub leaves : left bodies

-- The replies to all frames before the faulty one were written.
pub record StopsAtFrame (answers : Answering) (left : List (List ℕ) → Type 0) (r0 r1 w0 w1 : Option (List ℕ)) (number : ℕ) (fault : FrameFault) : Type 0 where
  pub bodies : List (List ℕ)
  pub rest : List ℕ
  pub front : ReadsFrames answers r0 r1 bodies rest
  pub faulty : IsFaulty (answers bodies) rest fault ⊎ IsCutShort r1 rest fault
  pub number_is : number ≡ length bodies + 1
  pub written : Appends w0 w1 (replies answers bodies)
  pub leaves : left bodies

-- The replies to all whole frames among the bytes that were read were written.
pub record StopsBetween (answers : Answering) (left : List (List ℕ) → Type 0) (r0 r1 w0 w1 : Option (List ℕ)) : Type 0 where
  pub bodies : List (List ℕ)
  pub rest : List ℕ
  pub front : ReadsFrames answers r0 r1 bodies rest
  pub partial : IsPartial rest
  pub written : Appends w0 w1 (replies answers bodies)
  pub leaves : left bodies

-- The replies to some first frames were written.
pub record StopsEarly (answers : Answering) (left : List (List ℕ) → Type 0) (r0 r1 w0 w1 : Option (List ℕ)) : Type 0 where
  pub bodies : List (List ℕ)
  pub rest : List ℕ
  pub front : ReadsFrames answers r0 r1 bodies rest
  pub written : Appends w0 w1 (replies answers bodies)
  pub leaves : left bodies ⊎ LeavesNext left rest bodies

-- The first `taken` bytes of the replies to some first frames were written.
pub record StopsTorn (answers : Answering) (left : List (List ℕ) → Type 0) (r0 r1 w0 w1 : Option (List ℕ)) : Type 0 where
  pub bodies : List (List ℕ)
  pub rest : List ℕ
  pub taken : ℕ
  pub front : ReadsFrames answers r0 r1 bodies rest
  pub written : Appends w0 w1 (take taken (replies answers bodies))
  pub leaves : left bodies ⊎ LeavesNext left rest bodies

-- How the serving ended, by its result.
abbrev pub Serves : Answering → (List (List ℕ) → Type 0) → Option (List ℕ) → Option (List ℕ) → Option (List ℕ) → Option (List ℕ) → Result ℕ ServeFault → Type 0
Serves answers left r0 r1 w0 w1 (Ok count) = ServesAll answers left r0 r1 w0 w1 count
Serves answers left r0 r1 w0 w1 (Err (Frame number fault)) = StopsAtFrame answers left r0 r1 w0 w1 number fault
Serves answers left r0 r1 w0 w1 (Err Read) = StopsBetween answers left r0 r1 w0 w1
Serves answers left r0 r1 w0 w1 (Err TurnsSpent) = StopsBetween answers left r0 r1 w0 w1
Serves answers left r0 r1 w0 w1 (Err NoMemory) = StopsEarly answers left r0 r1 w0 w1
Serves answers left r0 r1 w0 w1 (Err Write) = StopsTorn answers left r0 r1 w0 w1
