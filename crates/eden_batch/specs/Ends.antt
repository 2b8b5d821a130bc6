-- How the reading of a batch ends: the bytes of the reader go from r0 to r1, and what the store
-- holds goes from `old` to `new`.
use Rattle.std.specs.Prelude.{◌≡◌, ◌≢◌, ℕ, ◌+◌, ◌⊎◌, All, List, [], ◌++◌, length, map, Option, Result, Ok, Err}
use Rattle.std.specs.Io.KnownBytes.{Consumes, IsAtEnd}
use Rattle.eden_ids.specs.declared.id.Id.{Id}
use Rattle.eden_objects.specs.Objects.{Held}
use Rattle.eden_batch.specs.Batches.{HasLargeHeader, HasNoHeader, IsObject, IsPartial, LacksLineFeed, batch, written}
use Rattle.eden_batch.specs.Puttings.{ArePut, IsPut, IsPutAsOther, IsRefused}
use Rattle.eden_batch.specs.declared.fault.ObjectFault.{ObjectFault}
use Rattle.eden_batch.specs.declared.fault.ObjectFault.TheVariants as fault
use Rattle.eden_batch.specs.declared.fault.ObjectsFault.{ObjectsFault}
use Rattle.eden_batch.specs.declared.fault.ObjectsFault.TheVariants.{Object, Read, TurnsSpent, NoMemory}

-- What was read is these objects and a rest. They were put one after another, and then `held` was
-- held.
pub record ReadsObjects (name : List ℕ → List ℕ → Id) (r0 r1 : Option (List ℕ)) (old : List Held) (objects : List Held) (rest : List ℕ)
    (held : List Held) : Type 0 where
  pub stream : List ℕ
  pub read : Consumes r0 r1 stream
  pub cut : stream ≡ batch objects ++ rest
  pub each : All IsObject objects
  pub put : ArePut name objects old held

-- The rest begins with an object of which this holds.
pub record BeginsWith (Is : Held → Type 0) (rest : List ℕ) : Type 0 where
  pub object : Held
  pub more : List ℕ
  pub is_object : IsObject object
  pub cut : rest ≡ written object ++ more
  pub is : Is object

-- What each cause says of the rest, and of what is held in the end, if `held` was held before.
abbrev pub HasFault : (List ℕ → List ℕ → Id) → Option (List ℕ) → List ℕ → List Held → List Held → ObjectFault → Type 0
HasFault name r1 rest held new fault.BadHeader = (HasNoHeader rest ⊎ LacksLineFeed rest) × (new ≡ held)
HasFault name r1 rest held new fault.TooLarge = HasLargeHeader rest × (new ≡ held)
HasFault name r1 rest held new fault.CutShort = IsPartial rest × (rest ≢ []) × IsAtEnd r1 × (new ≡ held)
HasFault name r1 rest held new (fault.Refused cause) = BeginsWith (λ object. IsRefused name object held cause) rest × (new ≡ held)
HasFault name r1 rest held new fault.OtherId = BeginsWith (λ object. IsPutAsOther name object held new) rest

-- Everything was read and put, under these ids.
pub record EndsWell (name : List ℕ → List ℕ → Id) (r0 r1 : Option (List ℕ)) (old new : List Held) (ids : List Id) : Type 0 where
  pub objects : List Held
  pub front : ReadsObjects name r0 r1 old objects [] new
  pub at_end : IsAtEnd r1
  pub ids_are : ids ≡ map (λ object. object.id) objects

-- All objects before the faulty one were put.
pub record StopsAtObject (name : List ℕ → List ℕ → Id) (r0 r1 : Option (List ℕ)) (old new : List Held) (number : ℕ)
    (cause : ObjectFault) : Type 0 where
  pub objects : List Held
  pub rest : List ℕ
  pub held : List Held
  pub front : ReadsObjects name r0 r1 old objects rest held
  pub number_is : number ≡ length objects + 1
  pub fault : HasFault name r1 rest held new cause

-- All whole objects that were read were put. The reading stops at the next.
pub record StopsBetween (name : List ℕ → List ℕ → Id) (r0 r1 : Option (List ℕ)) (old new : List Held) (number : ℕ) : Type 0 where
  pub objects : List Held
  pub rest : List ℕ
  pub front : ReadsObjects name r0 r1 old objects rest new
  pub number_is : number ≡ length objects + 1
  pub partial : IsPartial rest

-- The objects before the one at which it stops were put. That one was put too, under its id, or
-- nothing else was.
pub record StopsEarly (name : List ℕ → List ℕ → Id) (r0 r1 : Option (List ℕ)) (old new : List Held) (number : ℕ) : Type 0 where
  pub objects : List Held
  pub rest : List ℕ
  pub held : List Held
  pub front : ReadsObjects name r0 r1 old objects rest held
  pub number_is : number ≡ length objects + 1
  pub grown : (new ≡ held) ⊎ BeginsWith (λ object. IsPut name object held new) rest

-- How the reading ended, by its result.
abbrev pub Ends : (List ℕ → List ℕ → Id) → Option (List ℕ) → Option (List ℕ) → List Held → List Held
    → Result (List Id) ObjectsFault → Type 0
Ends name r0 r1 old new (Ok ids) = EndsWell name r0 r1 old new ids
Ends name r0 r1 old new (Err (Object number cause)) = StopsAtObject name r0 r1 old new number cause
Ends name r0 r1 old new (Err (Read number)) = StopsBetween name r0 r1 old new number
Ends name r0 r1 old new (Err (TurnsSpent number)) = StopsBetween name r0 r1 old new number
Ends name r0 r1 old new (Err (NoMemory number)) = StopsEarly name r0 r1 old new number
