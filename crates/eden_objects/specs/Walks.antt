-- The results of look-ups: a file below a directory, its bytes, and the tree of a commit.
use Rattle.std.specs.Prelude.{ℕ, if◌then◌else◌, List, Option, Some, None}
use Rattle.eden_ids.specs.declared.id.Id.{Id}
use Rattle.eden_ids.specs.declared.content.Kind.{Kind}
use Rattle.eden_ids.specs.declared.content.Content.{Content}
use Rattle.eden_objects.specs.Objects.{Held, find, payload_of}
use Rattle.eden_git.specs.ObjectTypes.{same_type}
use Rattle.eden_objects.specs.Commits.{Row, find_row}
use Rattle.eden_git.specs.Commits.{tree_named}
use Rattle.eden_git.specs.declared.object_type.ObjectType.TheVariants.{Commit}

-- a look-up of the rest, if there is a directory
abbrev pub then_find : (Id → List Row) → List ℕ → Option Id → Option (Kind × Id)
then_find rows path None = None
then_find rows path (Some child) = find_row path (rows child)

-- the file that is found
abbrev pub content_found : List Held → Option (Kind × Id) → Option Content
content_found held None = None
content_found held (Some found) = Some (record { kind = found.0; bytes = payload_of (find found.1 held) })

-- the tree that an object names, if it is a commit
abbrev pub tree_seen : Option Held → Option Id
tree_seen None = None
tree_seen (Some h) = if same_type h.object_type Commit then tree_named h.payload else None
