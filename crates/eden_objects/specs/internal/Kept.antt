-- What is kept of an object besides its payload, and what a look-up says of it.
use Rattle.std.specs.Prelude.{◌≡◌, ℕ, ◌≤◌, Bool, ◌&&◌, List, [], ◌∷◌, length, Option, Some, None, Result, Ok, Err, if◌then◌else◌}
use Rattle.eden_ids.specs.declared.id.Id.{Id}
use Rattle.eden_ids.specs.Sameness.{same_bytes}
use Rattle.eden_git.specs.declared.object_type.ObjectType.{ObjectType}
use Rattle.eden_git.specs.Columns.{AreColumns}
use Rattle.eden_git.specs.Commits.{tree_named}
use Rattle.eden_git.specs.Trees.{Entry, entries_of}
use Rattle.eden_git.specs.ObjectTypes.{same_type}
use Rattle.eden_objects.specs.declared.size.Size.{Size}
use Rattle.eden_objects.specs.declared.outline.Outline.{Outline}
use Rattle.eden_objects.specs.declared.stored.Body.{Body}
use Rattle.eden_objects.specs.declared.stored.Body.TheVariants.{Blob, Tree, Commit}
use Rattle.eden_objects.specs.declared.stored.Stored.{Stored}
use Rattle.eden_objects.specs.declared.fault.PutFault.{PutFault}
use Rattle.eden_objects.specs.declared.fault.PutFault.TheVariants.{IdTaken}
use Rattle.eden_objects.specs.Commits.{entries_rows, tree_rows}
use Rattle.eden_objects.specs.Contents.{held_of, helds, type_of}
use Rattle.eden_objects.specs.Counts.{capped}
use Rattle.eden_objects.specs.Objects.{Held}
use Rattle.eden_objects.specs.Trees.{entries_depth, entries_reach, tree_depth, tree_reach}

abbrev pub option_held : Id → Option Stored → Option Held
option_held id None = None
option_held id (Some object) = Some (held_of id object)

abbrev pub is_object : Stored → ObjectType → List ℕ → Bool
is_object object object_type payload = same_type (type_of object.body) object_type && same_bytes object.payload payload

abbrev pub standing_answer : Stored → Id → ObjectType → List ℕ → Result Id PutFault
standing_answer object id object_type payload = if is_object object object_type payload then Ok id else Err IdTaken

-- the files of a tree with these entries, over the objects before it
abbrev pub files_of_entries : List Held → List Entry → ℕ
files_of_entries earlier es = capped (length (entries_rows (tree_rows earlier) es))

-- the files of a tree that is held
abbrev pub files_of_tree : List Held → Id → ℕ
files_of_tree held id = capped (length (tree_rows held id))

-- a tree's depth and reach, by its entries
abbrev pub SizeFits : List Held → List ℕ → Size → Type 0
SizeFits earlier payload size =
    (size.depth ≡ entries_depth (tree_depth earlier) (entries_of payload))
    × (size.reach ≡ entries_reach (tree_reach earlier) (entries_of payload))

-- and the number of its files
abbrev pub OutlineFits : List Held → List ℕ → Outline → Type 0
OutlineFits earlier payload outline = SizeFits earlier payload outline.size × (outline.files ≡ files_of_entries earlier (entries_of payload))

-- what is kept of the tree with an id: its depth and its reach, with their limits, and
-- the number of its files
abbrev pub TellsTree : List Held → Id → Outline → Type 0
TellsTree held id outline = (outline.size.depth ≡ tree_depth held id) × (outline.size.reach ≡ tree_reach held id)
    × (outline.size.depth ≤ 64) × (outline.size.reach ≤ 1024) × (outline.files ≡ files_of_tree held id)

abbrev pub IfTree : Body → (Outline → Type 0) → Type 0
IfTree (Tree outline) is = is outline
IfTree body is = Unit {0}

-- what is in the payload itself: a tree's entries, and the tree that a commit names
abbrev pub IsReadFrom : List ℕ → Body → Type 0
IsReadFrom payload Blob = Unit {0}
IsReadFrom payload (Tree outline) = AreColumns payload outline.columns
IsReadFrom payload (Commit tree) = tree_named payload ≡ Some tree

-- an object as it is put after earlier ones
abbrev pub Measures : List Held → Stored → Type 0
Measures earlier object = IsReadFrom object.payload object.body × IfTree object.body (OutlineFits earlier object.payload)

abbrev pub AreMeasured : List (Id × Stored) → Type 0
AreMeasured [] = Unit {0}
AreMeasured (e ∷ earlier) = Measures (helds earlier) e.1 × AreMeasured earlier

-- an object as it is found among all
abbrev pub TellsKept : List Held → Id → Option Stored → Type 0
TellsKept held id None = Unit {0}
TellsKept held id (Some object) = IsReadFrom object.payload object.body × IfTree object.body (TellsTree held id)
