-- What a script's lines have made so far, and what each line does to it and results in.
use Rattle.std.specs.Prelude.{ℕ, List, [], ◌∷◌, ◌++◌, codes, replicate, Option, Some, None, filter, Result, Ok, Err, option_map}
use Rattle.eden_git.specs.declared.object_type.ObjectType.{ObjectType}
use Rattle.eden_git.specs.declared.object_type.ObjectType.TheVariants.{Blob, Tree, Commit}
use Rattle.hex.specs.Hex.{encode_lower}
use Rattle.eden_ids.specs.declared.id.Id.{Id}
use Rattle.eden_ids.specs.declared.content.Content.{Content}
use Rattle.eden_ids.specs.FileMaps.{FileMap, file_at, paths, listing, differ}
use Rattle.eden_ids.specs.Naming.{git_name}
use Rattle.eden_ids.specs.Paths.{path_fault}
use Rattle.eden_globs.specs.Filters as globs
use Rattle.eden_objects.specs.Commits.{commit_map}
use Rattle.eden_objects.specs.declared.import.Object.{Object}
use Rattle.eden_objects.specs.Imports as imports
use Rattle.eden_objects.specs.Objects.{Held}
use Rattle.eden_objects.specs.Puts.{Outcome}
use Rattle.eden_objects.specs.Files.{files_of}
use Rattle.eden_history.specs.declared.answer.Answer.TheVariants.{At}
use Rattle.eden_history.specs.declared.change.Change.{Change}
use Rattle.eden_history.specs.declared.change.Change.TheVariants as change
use Rattle.eden_history.specs.declared.change.ChangeFault.TheVariants.{NoEntry}
use Rattle.eden_history.specs.declared.position.Position.{Position}
use Rattle.eden_history.specs.Worlds.{WorldState, commits_of, now, position_of, opened}
use Rattle.eden_history.specs.Imports.{over_held}
use Rattle.eden_history.specs.Renames.{absent_fault}
use Rattle.eden_history.specs.Outcome.{answer_of, world_after}
use Rattle.eden_history.specs.Changes.{prefixes_since}
use Rattle.eden_history.specs.Status.{status_of}
use Rattle.eden_history.specs.Marks.{marked_since}
use Rattle.eden_script.specs.declared.command.Command.{Command}
use Rattle.eden_script.specs.declared.command.Command.TheVariants as line
use Rattle.eden_script.specs.declared.command.PutLine.{PutLine}
use Rattle.eden_script.specs.declared.command.PutLine.TheVariants as put
use Rattle.eden_script.specs.declared.command.MountLine.{MountLine}
use Rattle.eden_script.specs.declared.command.ChangeLine.{ChangeLine}
use Rattle.eden_script.specs.declared.command.ChangeLine.TheVariants as changing
use Rattle.eden_script.specs.declared.command.AskLine.{AskLine}
use Rattle.eden_script.specs.declared.command.AskLine.TheVariants as asking
use Rattle.eden_script.specs.declared.command.TreeEntry.{TreeEntry}
use Rattle.eden_script.specs.declared.label.Binding.{Binding}
use Rattle.eden_script.specs.declared.told.Refusal.{Refusal}
use Rattle.eden_script.specs.declared.told.Refusal.TheVariants as refusal
use Rattle.eden_script.specs.declared.told.Told.{Told}
use Rattle.eden_script.specs.declared.told.Told.TheVariants as told
use Rattle.eden_script.specs.Labels.{bound}

-- what the lines so far have made: the mount, if there is one; the objects put before it,
-- newest first; and the bindings, newest first
pub record Session : Type 0 where
  pub mounted : Option WorldState
  pub held : List Held
  pub bindings : List Binding

-- no mount yet, and these objects and bindings
abbrev pub session_over : List Held → List Binding → Session
session_over held bindings = record { mounted = None; held = held; bindings = bindings }

abbrev pub first_session : Session
first_session = session_over [] []

-- the session after a line, and the result of the line
abbrev pub Acted : Type 0
Acted = Session × Told

-- a refusal, or else the result
abbrev pub unless : Option Refusal → Told → Told
unless (Some cause) others = told.Refused cause
unless None others = others

-- ---- objects

-- the objects so far: those of the mount, if there is one
abbrev pub objects_in : List Held → Option WorldState → List Held
objects_in held None = held
objects_in held (Some world) = world.held

abbrev pub objects_of : Session → List Held
objects_of session = objects_in session.held session.mounted

-- the session with these objects, over which its mount goes on
abbrev pub grown : Session → List Held → Option WorldState → Session
grown session held None = record session { held = held }
grown session held (Some world) = record session { mounted = Some (over_held world held) }

-- a put binds its label, and one that is refused changes nothing
abbrev pub put_acted : Session → List ℕ → Outcome → Acted
put_acted session label (Err fault) = (session, told.Refused (refusal.Put fault))
put_acted session label (Ok made) =
    (record (grown session made.1 session.mounted) { bindings = record { label = label; id = made.0 } ∷ session.bindings }, told.Done)

-- the bytes of an entry in a tree, if its label is bound: mode, space, name, NUL and the
-- id's bytes
abbrev pub entry_bytes : TreeEntry → Option Id → Option (List ℕ)
entry_bytes entry None = None
entry_bytes entry (Some id) = Some (entry.mode ++ 32 ∷ entry.name ++ 0 ∷ id.0)

abbrev pub joined : Option (List ℕ) → Option (List ℕ) → Option (List ℕ)
joined (Some bytes) (Some more) = Some (bytes ++ more)
joined _ _ = None

unfoldable pub tree_payload : List Binding → List TreeEntry → Option (List ℕ)
tree_payload bindings [] = Some []
tree_payload bindings (entry ∷ entries) = joined (entry_bytes entry (bound bindings entry.label)) (tree_payload bindings entries)

abbrev pub commit_payload : Option Id → Option (List ℕ)
commit_payload None = None
commit_payload (Some tree) = Some (codes "tree " ++ encode_lower tree.0 ++ (10 ∷ []))

-- the object of a line, or `None` if a label in it is not bound
abbrev pub object_with : ObjectType → Option (List ℕ) → Option Object
object_with object_type None = None
object_with object_type (Some payload) = Some record { object_type = object_type; payload = payload }

abbrev pub object_of : List Binding → PutLine → Option Object
object_of bindings (put.Blob label bytes) = object_with Blob (Some bytes)
object_of bindings (put.Tree label entries) = object_with Tree (tree_payload bindings entries)
object_of bindings (put.Commit label tree) = object_with Commit (commit_payload (bound bindings tree))

abbrev pub put_label : PutLine → List ℕ
put_label (put.Blob label bytes) = label
put_label (put.Tree label entries) = label
put_label (put.Commit label tree) = label

-- a label that is not bound is refused before the put is tried; once there is a mount,
-- objects are added to its store
abbrev pub tried : Session → List ℕ → Option Object → Acted
tried session label None = (session, told.Refused refusal.NoLabel)
tried session label (Some object) = put_acted session label (imports.put_of git_name object (objects_of session))

abbrev pub id_told : Option Id → Told
id_told None = told.Refused refusal.NoLabel
id_told (Some id) = told.Id id

-- ---- mounting

-- a commit is mounted over the objects put so far
abbrev pub mounted_at : Session → MountLine → Id → Option FileMap → Acted
mounted_at session line root None = (session, told.Refused refusal.NoCommit)
mounted_at session line root (Some files) =
    let world = opened session.held line.generation line.limit root files in
    (record session { mounted = Some world }, told.Answer (At (position_of (now world))))

abbrev pub mounted_by : Session → MountLine → Option Id → Acted
mounted_by session line None = (session, told.Refused refusal.NoLabel)
mounted_by session line (Some root) = mounted_at session line root (commit_map session.held root)

-- ---- changes

abbrev pub path_refusal : List ℕ → Option Refusal
path_refusal word = option_map refusal.Path (path_fault word)

-- the first of two causes
abbrev pub first_cause : Option Refusal → Option Refusal → Option Refusal
first_cause None second = second
first_cause (Some cause) second = Some cause

abbrev pub changing_to : Option Refusal → Change → Result Change Refusal
changing_to (Some cause) change = Err cause
changing_to None change = Ok change

abbrev pub to_commit : Option Id → (Id → Change) → Result Change Refusal
to_commit None change = Err refusal.NoLabel
to_commit (Some commit) change = Ok (change commit)

-- the change of a line; it is refused for its path, or its label, before the mount is
-- asked
abbrev pub change_of : List Binding → ChangeLine → Result Change Refusal
change_of bindings (changing.Write path kind bytes) = changing_to (path_refusal path) (change.Write path kind bytes)
change_of bindings (changing.Remove path) = changing_to (path_refusal path) (change.Remove path)
change_of bindings (changing.Rename old new) = changing_to (first_cause (path_refusal old) (path_refusal new)) (change.Rename old new)
change_of bindings (changing.RenameDir old new) = changing_to (first_cause (path_refusal old) (path_refusal new)) (change.RenameDir old new)
change_of bindings (changing.Reset label) = to_commit (bound bindings label) (λ commit. change.Reset commit)
change_of bindings changing.Flush = Ok change.Flush
change_of bindings (changing.Remount generation) = Ok (change.Remount generation)
change_of bindings (changing.Checkout label mode) = to_commit (bound bindings label) (λ commit. change.Checkout commit mode)

abbrev pub changed : Session → WorldState → Result Change Refusal → Acted
changed session world (Err cause) = (session, told.Refused cause)
changed session world (Ok change) = (record session { mounted = Some (world_after git_name world change) }, told.Answer (answer_of git_name world change))

-- ---- questions

abbrev pub file_told : Option Content → Told
file_told None = told.Refused (refusal.File NoEntry)
file_told (Some content) = told.File content.kind content.bytes

abbrev pub position_asked : ℕ → ℕ → Position
position_asked generation sequence = record { generation = generation; sequence = sequence; root = record { 0 = replicate 20 0 } }

-- the position; the paths of the files, in byte order, that the patterns admit; the
-- paths, in byte order, at which the files differ from the commit's; a file, which is
-- refused for its path before the mount is asked; and what changed since a position
abbrev pub asked : WorldState → AskLine → Told
asked world asking.Position = told.Answer (At (position_of (now world)))
asked world (asking.ListFiles patterns) =
    unless (option_map refusal.Patterns (globs.filter_fault patterns)) (told.Files (filter (globs.admits (globs.including patterns)) (paths (now world).files)))
asked world asking.Dirty = told.Dirty (listing (differ (now world).files (files_of (commits_of world (now world).root))))
asked world (asking.Read path) =
    unless (path_refusal path) (
    unless (option_map refusal.File (absent_fault (now world).files path)) (
    file_told (file_at (now world).files path)))
asked world (asking.Since generation sequence) =
    unless (option_map refusal.Since (status_of world (position_asked generation sequence))) (
    told.Changes (marked_since world sequence) (prefixes_since world sequence) (position_of (now world)))

-- ---- every line

-- a commit is mounted if there is no mount
abbrev pub until_mounted : Option WorldState → Session → Acted → Acted
until_mounted None session acted = acted
until_mounted (Some world) session acted = (session, told.Refused refusal.Mounted)

-- a line for the mount is refused if there is none
abbrev pub once_mounted : Option WorldState → Session → (WorldState → Acted) → Acted
once_mounted None session acts = (session, told.Refused refusal.NotMounted)
once_mounted (Some world) session acts = acts world

abbrev pub acted : Session → Command → Acted
acted session (line.Put put) = tried session (put_label put) (object_of session.bindings put)
acted session (line.Id label) = (session, id_told (bound session.bindings label))
acted session (line.Mount mount) = until_mounted session.mounted session (mounted_by session mount (bound session.bindings mount.label))
acted session (line.Change change) = once_mounted session.mounted session (λ world. changed session world (change_of session.bindings change))
acted session (line.Ask question) = once_mounted session.mounted session (λ world. (session, asked world question))
