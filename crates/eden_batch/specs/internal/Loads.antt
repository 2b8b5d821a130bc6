-- What is known of what is being filled with objects.
use Rattle.std.proofs.Common.{◌≡◌, List, ℕ, ◌++◌, map, ◌⊎◌, Result, Ok, Err}
use Rattle.std.specs.List.{All}
use Rattle.eden_ids.specs.declared.id.Id.{Id}
use Rattle.eden_git.specs.declared.object_type.ObjectType.{ObjectType}
use Rattle.eden_objects.specs.Imports.{put_typed}
use Rattle.eden_objects.specs.Objects.{Held}
use Rattle.eden_objects.specs.declared.fault.PutFault.{PutFault}
use Rattle.eden_objects.specs.declared.fault.PutFault.TheVariants as put
use Rattle.eden_stream.specs.Stories.{Story, IsStory}
use Rattle.eden_stream.specs.declared.pump.Stop.{Stop}
use Rattle.eden_stream.specs.declared.pump.Stop.TheVariants as stops
use Rattle.eden_stream.specs.declared.teller.Step.{Step}
use Rattle.eden_stream.specs.declared.teller.Step.TheVariants as step
use Rattle.eden_batch.specs.Batches.{IsObject, written}
use Rattle.eden_batch.specs.Puttings.{ArePut, IsPut, IsPutAsOther, IsRefused}
use Rattle.eden_batch.specs.internal.Grammar.{object_grammar}
use Rattle.eden_batch.specs.declared.fault.ObjectFault.{ObjectFault}
use Rattle.eden_batch.specs.declared.fault.ObjectFault.TheVariants.{BadHeader, CutShort, OtherId, Refused, TooLarge}
use Rattle.eden_batch.specs.declared.fault.ObjectsFault.{ObjectsFault}
use Rattle.eden_batch.specs.declared.fault.ObjectsFault.TheVariants as faults
use Rattle.eden_batch.specs.declared.putting.Filling.{Filling}

-- a put call gave its outcome, or a growth was refused
abbrev pub Puts : Result Id PutFault → (List ℕ → List ℕ → Id) → ObjectType → List ℕ → List Held → List Held → Type 0
Puts (Ok id) name object_type payload old new = put_typed name object_type payload old ≡ Ok (id, new)
Puts (Err put.NoMemory) name object_type payload old new = new ≡ old
Puts (Err fault) name object_type payload old new = (new ≡ old) × (put_typed name object_type payload old ≡ Err fault)

-- what is answered to a refusal
abbrev pub refusal_of : PutFault → Step ObjectFault
refusal_of put.NoMemory = step.NoMemory
refusal_of cause = step.Fault (Refused cause)

-- The items are these objects, which were put one after another, and then `held` was held.
pub record HavePut (name : List ℕ → List ℕ → Id) (old : List Held) (items : List (List ℕ)) (objects held : List Held) : Type 0 where
  pub items_are : items ≡ map written objects
  pub each : All IsObject objects
  pub put : ArePut name objects old held

-- All of them were put, and their ids noted.
pub record Fills (name : List ℕ → List ℕ → Id) (old new : List Held) (noted ids : List Id) (items : List (List ℕ)) : Type 0 where
  pub objects : List Held
  pub have : HavePut name old items objects new
  pub ids_are : ids ≡ noted ++ map (λ object. object.id) objects

-- the object of an item is put, under its id
abbrev pub IsItemPut : (List ℕ → List ℕ → Id) → List ℕ → List Held → List Held → Type 0
IsItemPut name item held new = (object : Held) × IsObject object × (item ≡ written object) × IsPut name object held new

-- All of them were put, and their ids noted. Then the next item was put, and its id not noted, or
-- nothing was.
pub record HaltsAt (name : List ℕ → List ℕ → Id) (old new : List Held) (noted ids : List Id) (items : List (List ℕ)) (item : List ℕ) : Type 0 where
  pub objects : List Held
  pub held : List Held
  pub have : HavePut name old items objects held
  pub ids_are : ids ≡ noted ++ map (λ object. object.id) objects
  pub grown : (new ≡ held) ⊎ IsItemPut name item held new

-- why an object is not put under its id
abbrev pub Fails : (List ℕ → List ℕ → Id) → Held → List Held → List Held → ObjectFault → Type 0
Fails name object held new BadHeader = ⊥
Fails name object held new TooLarge = ⊥
Fails name object held new CutShort = ⊥
Fails name object held new (Refused cause) = IsRefused name object held cause × (new ≡ held)
Fails name object held new OtherId = IsPutAsOther name object held new

-- All of them were put, and after them this one fails.
pub record FailsAt (name : List ℕ → List ℕ → Id) (old new : List Held) (items : List (List ℕ)) (item : List ℕ)
    (fault : ObjectFault) : Type 0 where
  pub objects : List Held
  pub held : List Held
  pub object : Held
  pub have : HavePut name old items objects held
  pub is_object : IsObject object
  pub item_is : item ≡ written object
  pub fails : Fails name object held new fault

module _ {I : Type 0} (name : List ℕ → List ℕ → Id) (held : I → List Held) (over : I → List Held → I) where
  -- the same is filled, with objects alone, and the same list
  pub record AreSame (before now : Filling I) : Type 0 where
    pub into : now.into.ghost_name ≡ before.into.ghost_name
    pub ids : now.ids.ghost_name ≡ before.ids.ghost_name
    pub only : now.into.now ≡ over before.into.now (held now.into.now)

  abbrev pub put_story : Filling I → Filling I → Story ObjectFault
  put_story before now = record {
    told = λ items text. AreSame before now × Fills name (held before.into.now) (held now.into.now) before.ids.now.items now.ids.now.items items;
    lost = λ items text. AreSame before now;
    refused = λ items item fault. FailsAt name (held before.into.now) (held now.into.now) items item fault;
    spent = λ items item text. AreSame before now
        × HaltsAt name (held before.into.now) (held now.into.now) before.ids.now.items now.ids.now.items items item;
  }

  pub put_laws : (before now : Filling I) → IsStory object_grammar (put_story before now)
  put_laws before now = record {
    passes = λ items item text silent told. absurd silent;
    stops = λ items text told. told.0;
  }

-- how a reading ends, which notes these ids
abbrev pub with_ids : List Id → Result (Unit {0}) ObjectsFault → Result (List Id) ObjectsFault
with_ids ids (Ok done) = Ok ids
with_ids ids (Err fault) = Err fault

-- how a reading ended, by the pump, whose writer does not fail, where the object after those whose
-- ids are noted has this number
abbrev pub IsReadAs : ℕ → Result ℕ (Stop ObjectFault) → Result (Unit {0}) ObjectsFault → Type 0
IsReadAs next (Ok count) result = result ≡ Ok tt
IsReadAs next (Err (stops.Item number fault)) result = result ≡ Err (faults.Object number fault)
IsReadAs next (Err stops.Read) result = result ≡ Err (faults.Read next)
IsReadAs next (Err stops.TurnsSpent) result = result ≡ Err (faults.TurnsSpent next)
IsReadAs next (Err stops.NoMemory) result = result ≡ Err (faults.NoMemory next)
IsReadAs next (Err stops.Write) result = ⊥
