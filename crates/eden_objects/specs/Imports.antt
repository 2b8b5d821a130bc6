-- The result of an import of several objects, and what the store holds after it. The
-- objects are put one after another, each by the call of its type, all or none: the
-- import is refused at the first that is refused, and then the store does not change.
use Rattle.std.specs.Prelude.{◌≡◌, ℕ, ◌+◌, List, [], ◌∷◌, ◌++◌, Result, Ok, Err}
use Rattle.eden_ids.specs.declared.id.Id.{Id}
use Rattle.eden_git.specs.declared.object_type.ObjectType.{ObjectType}
use Rattle.eden_git.specs.declared.object_type.ObjectType.TheVariants.{Blob, Tree, Commit}
use Rattle.eden_objects.specs.declared.import.Object.{Object}
use Rattle.eden_objects.specs.declared.import.ImportFault.{ImportFault}
use Rattle.eden_objects.specs.declared.import.ImportFault.TheVariants.{BadObject}
use Rattle.eden_objects.specs.Objects.{Held}
use Rattle.eden_objects.specs.Puts.{Outcome, blob_outcome, tree_outcome, commit_outcome}

abbrev pub put_typed : (List ℕ → List ℕ → Id) → ObjectType → List ℕ → List Held → Outcome
put_typed name Blob payload held = blob_outcome name payload held
put_typed name Tree payload held = tree_outcome name payload held
put_typed name Commit payload held = commit_outcome name payload held

abbrev pub put_of : (List ℕ → List ℕ → Id) → Object → List Held → Outcome
put_of name object held = put_typed name object.object_type object.payload held

abbrev pub Imported : Type 0
Imported = Result (List Held) ImportFault

-- an object that is refused refuses all; after one that is put come the others
abbrev pub and_then : ℕ → Outcome → (List Held → Imported) → Imported
and_then place (Err fault) others = Err (BadObject place fault)
and_then place (Ok put) others = others put.1

abbrev pub import_from : (List ℕ → List ℕ → Id) → ℕ → List Object → List Held → Imported
import_from name place [] held = Ok held
import_from name place (object ∷ objects) held = and_then place (put_of name object held) (import_from name (place + 1) objects)

abbrev pub import_outcome : (List ℕ → List ℕ → Id) → List Object → List Held → Imported
import_outcome name objects held = import_from name 0 objects held

-- the newer list has everything that the older one has, and some before it
abbrev pub GrowsOnto : List Held → List Held → Type 0
GrowsOnto held new = (more : List Held) × (new ≡ more ++ held)

-- What takes objects: over the objects that it has, it is itself; and changing its
-- objects twice is the same as changing them once, to the later ones.
pub record IsOver {T : Type 0} (held : T → List Held) (over : T → List Held → T) : Type 0 where
  pub same : (taker : T) → over taker (held taker) ≡ taker
  pub again : (taker : T) (objects more : List Held) → over (over taker objects) more ≡ over taker more
