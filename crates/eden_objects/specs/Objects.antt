-- The objects of a store, newest first, so that what an object refers to comes after it.
use Rattle.std.specs.Prelude.{ℕ, List, [], ◌∷◌, replicate, Option, Some, None, if◌then◌else◌}
use Rattle.eden_ids.specs.declared.id.Id.{Id}
use Rattle.eden_ids.specs.Sameness.{same_id}
use Rattle.eden_git.specs.declared.object_type.ObjectType.{ObjectType}
use Rattle.eden_git.specs.declared.object_type.ObjectType.TheVariants.{Blob}
use Rattle.eden_git.specs.ObjectTypes.{same_type}

-- the id of the empty commit, which no object has
abbrev pub zero_id : Id
zero_id = record { 0 = replicate 20 0 }

-- an object, with its id
pub record Held : Type 0 where
  pub id : Id
  pub object_type : ObjectType
  pub payload : List ℕ

-- the object with an id
abbrev pub find : Id → List Held → Option Held
find id [] = None
find id (h ∷ earlier) = if same_id id h.id then Some h else find id earlier

abbrev pub payload_of : Option Held → List ℕ
payload_of None = []
payload_of (Some h) = h.payload

-- the payload of the blob with an id
abbrev pub blob_in : Option Held → Option (List ℕ)
blob_in None = None
blob_in (Some h) = if same_type h.object_type Blob then Some h.payload else None

abbrev pub blob_of : List Held → Id → Option (List ℕ)
blob_of held id = blob_in (find id held)
