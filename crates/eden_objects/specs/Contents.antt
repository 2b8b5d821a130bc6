-- How the table of a store is read as the list of its objects. A table is listed newest
-- first.
use Rattle.std.specs.Prelude.{List, map}
use Rattle.eden_ids.specs.declared.id.Id.{Id}
use Rattle.eden_git.specs.declared.object_type.ObjectType.{ObjectType}
use Rattle.eden_git.specs.declared.object_type.ObjectType.TheVariants as object_type
use Rattle.eden_objects.specs.declared.stored.Body.{Body}
use Rattle.eden_objects.specs.declared.stored.Body.TheVariants.{Blob, Tree, Commit}
use Rattle.eden_objects.specs.declared.stored.Stored.{Stored}
use Rattle.eden_objects.specs.Objects.{Held}

-- the type of an object, no matter what is kept of it
abbrev pub type_of : Body → ObjectType
type_of Blob = object_type.Blob
type_of (Tree outline) = object_type.Tree
type_of (Commit tree) = object_type.Commit

abbrev pub held_of : Id → Stored → Held
held_of id object = record { id = id; object_type = type_of object.body; payload = object.payload }

abbrev pub helds : List (Id × Stored) → List Held
helds table = map (λ e. held_of e.0 e.1) table
