-- What is held after objects are put one after another, each by the put call of its kind, and under
-- the id that its header says.
use Rattle.std.specs.Prelude.{◌≡◌, ◌≢◌, ℕ, List, [], ◌∷◌, Ok, Err}
use Rattle.eden_ids.specs.declared.id.Id.{Id}
use Rattle.eden_objects.specs.Objects.{Held}
use Rattle.eden_objects.specs.Imports.{put_typed}
use Rattle.eden_objects.specs.declared.fault.PutFault.{PutFault}

-- the object is put under its id
abbrev pub IsPut : (List ℕ → List ℕ → Id) → Held → List Held → List Held → Type 0
IsPut name object old new = put_typed name object.object_type object.payload old ≡ Ok (object.id, new)

-- the object is put under another id than its own
abbrev pub IsPutAsOther : (List ℕ → List ℕ → Id) → Held → List Held → List Held → Type 0
IsPutAsOther name object old new = (id : Id) × (id ≢ object.id) × (put_typed name object.object_type object.payload old ≡ Ok (id, new))

-- the object is refused, for this cause
abbrev pub IsRefused : (List ℕ → List ℕ → Id) → Held → List Held → PutFault → Type 0
IsRefused name object held fault = put_typed name object.object_type object.payload held ≡ Err fault

-- the objects are put one after another, each under its id
abbrev pub ArePut : (List ℕ → List ℕ → Id) → List Held → List Held → List Held → Type 0
ArePut name [] old new = new ≡ old
ArePut name (object ∷ more) old new = (next : List Held) × IsPut name object old next × ArePut name more next new
