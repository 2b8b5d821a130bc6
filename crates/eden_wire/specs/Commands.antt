-- Changes that a client asks for over a connection, and what is answered: the format of each.
use Rattle.std.specs.Prelude.{◌≡◌, ◌⊎◌, ℕ, ◌+◌, ◌-◌, ◌^◌, ◌≤◌, min, List, [], ◌∷◌, length, Option, Some, None, Result, Ok, nat_lt, ◌==◌, if◌then◌else◌}
use Rattle.std.specs.Int.{w32, w64}
use mathlib.Core.Logic.{inl, inr}
use Rattle.eden_ids.specs.declared.content.Content.{Content}
use Rattle.eden_ids.specs.declared.id.Id.{Id}
use Rattle.eden_ids.specs.Texts.{AreBytes}
use Rattle.eden_git.specs.declared.object_type.ObjectType.{ObjectType}
use Rattle.eden_git.specs.declared.object_type.ObjectType.TheVariants.{Blob, Tree, Commit}
use Rattle.eden_objects.specs.declared.fault.PutFault.{PutFault}
use Rattle.eden_objects.specs.declared.fault.PutFault.TheVariants as puts
use Rattle.eden_objects.specs.declared.import.Object.{Object}
use Rattle.eden_history.specs.declared.answer.Answer.{Answer}
use Rattle.eden_history.specs.declared.answer.Answer.TheVariants as answers
use Rattle.eden_history.specs.declared.change.Change.{Change}
use Rattle.eden_history.specs.declared.change.Change.TheVariants.{Write, Remove, Rename, RenameDir, Checkout, Reset, Flush, Remount, Import}
use Rattle.eden_history.specs.declared.change.ChangeFault.{ChangeFault}
use Rattle.eden_history.specs.declared.change.ChangeFault.TheVariants.{NotADirectory, IsADirectory, NoEntry, TooLarge, IntoItself, PathTooLong, NoCommit, SequenceExhausted, GenerationNotNew, BadObject, NoMemory}
use Rattle.eden_history.specs.declared.change.Mode.{Mode}
use Rattle.eden_history.specs.declared.change.Mode.TheVariants.{Normal, Dry, Force}
use Rattle.eden_history.specs.declared.position.Position.{Position}
use Rattle.eden_history.specs.Outcome.{answer_of}
use Rattle.eden_history.specs.Worlds.{Namer, WorldState}
use Rattle.eden_messages.specs.declared.message.Query.{Query}
use Rattle.eden_stream.specs.Frames.{body_limit}
use Rattle.eden_wire.specs.declared.command.Command.{Command}
use Rattle.eden_wire.specs.declared.command.Command.TheVariants.{Ask, Do}
use Rattle.eden_wire.specs.declared.command.Doing.{Doing}
use Rattle.eden_wire.specs.declared.done.Done.{Done}
use Rattle.eden_wire.specs.declared.done.Done.TheVariants.{NotWritable, At, Checked, Refused, Conflicting}
use Rattle.eden_wire.specs.declared.fault.DecodeFault.{DecodeFault}
use Rattle.eden_wire.specs.declared.fault.DecodeFault.TheVariants.{BadTag, BadField}
use Rattle.eden_wire.specs.Asked.{SpellsAsked, read_asked}
use Rattle.eden_wire.specs.Formats.{◌>>=◌, Follow, Format, Cases, nothing, byte, number, only, ◌▹◌, as_type, list, one_of, versioned, no_case, case, each_case, tagged}
use Rattle.eden_wire.specs.Messages.{query, position, id, path, content, file_bytes, is_above, paths_within, any_order}
use Rattle.eden_wire.specs.Reading.{read_whole, tag_at}

-- ---- changes

abbrev pub mode_byte : Mode → ℕ
mode_byte Normal = 1
mode_byte Dry = 2
mode_byte Force = 3

abbrev pub modes : List Mode
modes = Normal ∷ Dry ∷ Force ∷ []

abbrev pub mode : Format Mode
mode = one_of mode_byte modes

abbrev pub type_byte : ObjectType → ℕ
type_byte Blob = 1
type_byte Tree = 2
type_byte Commit = 3

abbrev pub object_types : List ObjectType
object_types = Blob ∷ Tree ∷ Commit ∷ []

abbrev pub object_type : Format ObjectType
object_type = one_of type_byte object_types

-- a type and a payload, which has as many bytes as a file at most
abbrev pub object : Format Object
object = as_type (object_type ▹ file_bytes) (λ x. record { object_type = x.0; payload = x.1 }) (λ o. (o.object_type, o.payload))

abbrev pub objects : Format (List Object)
objects = list (number w32) object any_order

-- what each kind of change has: a path and a content, two paths, two paths, an id and a mode,
-- an id, nothing, a generation, and objects
abbrev pub ChangeParts : Type 0
ChangeParts = (List ℕ × Option Content) ⊎ ((List ℕ × List ℕ) ⊎ ((List ℕ × List ℕ) ⊎ ((Id × Mode) ⊎ (Id ⊎ (Unit ⊎ (ℕ ⊎ (List Object ⊎ ⊥)))))))

-- the change that puts this content at the path
abbrev pub putting : List ℕ → Option Content → Change
putting path None = Remove path
putting path (Some content) = Write path content.kind content.bytes

abbrev pub change_of : ChangeParts → Change
change_of (inl x) = putting x.0 x.1
change_of (inr (inl x)) = Rename x.0 x.1
change_of (inr (inr (inl x))) = RenameDir x.0 x.1
change_of (inr (inr (inr (inl x)))) = Checkout x.0 x.1
change_of (inr (inr (inr (inr (inl commit))))) = Reset commit
change_of (inr (inr (inr (inr (inr (inl x)))))) = Flush
change_of (inr (inr (inr (inr (inr (inr (inl generation))))))) = Remount generation
change_of (inr (inr (inr (inr (inr (inr (inr (inl objects)))))))) = Import objects
change_of (inr (inr (inr (inr (inr (inr (inr (inr x)))))))) = absurd x

abbrev pub change_parts : Change → ChangeParts
change_parts (Write path kind bytes) = inl (path, Some (record { kind = kind; bytes = bytes }))
change_parts (Remove path) = inl (path, None)
change_parts (Rename old new) = inr (inl (old, new))
change_parts (RenameDir old new) = inr (inr (inl (old, new)))
change_parts (Checkout commit mode) = inr (inr (inr (inl (commit, mode))))
change_parts (Reset commit) = inr (inr (inr (inr (inl commit))))
change_parts Flush = inr (inr (inr (inr (inr (inl tt)))))
change_parts (Remount generation) = inr (inr (inr (inr (inr (inr (inl generation))))))
change_parts (Import objects) = inr (inr (inr (inr (inr (inr (inr (inl objects)))))))

abbrev pub change_cases : Cases ChangeParts
change_cases =
    case 1 (path ▹ content) (
    case 2 (path ▹ path) (
    case 3 (path ▹ path) (
    case 4 (id ▹ mode) (
    case 5 id (
    case 6 nothing (
    case 7 (number w64) (
    case 8 objects (no_case BadField))))))))

abbrev pub change : Format Change
change = as_type (tagged change_cases) change_of change_parts

abbrev pub doing_of : (Query × Change) ⊎ ⊥ → Doing
doing_of (inl x) = record { query = x.0; change = x.1 }
doing_of (inr x) = absurd x

abbrev pub doing_parts : Doing → (Query × Change) ⊎ ⊥
doing_parts d = inl (d.query, d.change)

abbrev pub doing : Format Doing
doing = as_type (versioned (tagged (case 6 (query ▹ change) (no_case BadTag)))) doing_of doing_parts

-- the bytes of a body that asks for a change
abbrev pub do_bytes : Doing → List ℕ
do_bytes d = doing.spell d

-- the body asks for the change, each part of which has an encoding
pub record SpellsDo (body : List ℕ) (asked : Doing) : Type 0 where
  pub fields : doing.fits asked
  pub bytes : body ≡ do_bytes asked
  pub limit : length body ≤ body_limit

abbrev pub SpellsCommand : List ℕ → Command → Type 0
SpellsCommand body (Ask asked) = SpellsAsked body asked
SpellsCommand body (Do asked) = SpellsDo body asked

-- the change that a body asks for, or the first fault
unfoldable pub read_do : List ℕ → Result Doing DecodeFault
read_do body = read_whole doing body

-- what a body asks for, or the first fault: the tag 6 is that of a change
unfoldable pub read_command : List ℕ → Result Command DecodeFault
read_command body = do
  tag ← tag_at body
  if tag.0 == 6 then (do
    asked ← read_do body
    Ok (Do asked))
      else (do
        asked ← read_asked body
        Ok (Ask asked))

-- the body of what is asked for is read as that
abbrev pub CommandsAreReadBack : Type 0
CommandsAreReadBack = (body : List ℕ) (command : Command) → SpellsCommand body command → read_command body ≡ Ok command

-- a body that is read as what is asked for encodes it
abbrev pub ReadCommandsAreSpelled : Type 0
ReadCommandsAreSpelled = (body : List ℕ) (command : Command) → AreBytes body → read_command body ≡ Ok command → SpellsCommand body command

-- ---- what was done

abbrev pub put_byte : PutFault → ℕ
put_byte puts.TooLarge = 1
put_byte puts.IdTaken = 2
put_byte puts.ZeroId = 3
put_byte puts.BadMode = 4
put_byte puts.BadName = 5
put_byte puts.OutOfOrder = 6
put_byte puts.Duplicate = 7
put_byte puts.MissingChild = 8
put_byte puts.WrongChildKind = 9
put_byte puts.TooDeep = 10
put_byte puts.PathTooLong = 11
put_byte puts.CutShort = 12
put_byte puts.BadCommit = 13
put_byte puts.NoMemory = 14

abbrev pub put_faults : List PutFault
put_faults = puts.TooLarge ∷ puts.IdTaken ∷ puts.ZeroId ∷ puts.BadMode ∷ puts.BadName ∷ puts.OutOfOrder ∷ puts.Duplicate ∷ puts.MissingChild ∷ puts.WrongChildKind ∷ puts.TooDeep ∷ puts.PathTooLong ∷ puts.CutShort ∷ puts.BadCommit ∷ puts.NoMemory ∷ []

abbrev pub put_fault : Format PutFault
put_fault = one_of put_byte put_faults

abbrev pub fault_byte : ChangeFault → ℕ
fault_byte NotADirectory = 1
fault_byte IsADirectory = 2
fault_byte NoEntry = 3
fault_byte TooLarge = 4
fault_byte IntoItself = 5
fault_byte PathTooLong = 6
fault_byte NoCommit = 7
fault_byte SequenceExhausted = 8
fault_byte GenerationNotNew = 9
fault_byte (BadObject place fault) = 10
fault_byte NoMemory = 11

-- the faults that name no object
abbrev pub plain_faults : List ChangeFault
plain_faults = NotADirectory ∷ IsADirectory ∷ NoEntry ∷ TooLarge ∷ IntoItself ∷ PathTooLong ∷ NoCommit ∷ SequenceExhausted ∷ GenerationNotNew ∷ NoMemory ∷ []

-- the place and the fault of no object: zeros
abbrev pub no_object : Format Unit
no_object = as_type (only (number w64) (λ n. n == 0) ▹ only byte (λ n. n == 0)) (λ x. tt) (λ x. (0, 0))

abbrev pub fault_of : (ℕ × PutFault) ⊎ ChangeFault → ChangeFault
fault_of (inl x) = BadObject x.0 x.1
fault_of (inr fault) = fault

abbrev pub fault_parts : ChangeFault → (ℕ × PutFault) ⊎ ChangeFault
fault_parts (BadObject place fault) = inl (place, fault)
fault_parts NotADirectory = inr NotADirectory
fault_parts IsADirectory = inr IsADirectory
fault_parts NoEntry = inr NoEntry
fault_parts TooLarge = inr TooLarge
fault_parts IntoItself = inr IntoItself
fault_parts PathTooLong = inr PathTooLong
fault_parts NoCommit = inr NoCommit
fault_parts SequenceExhausted = inr SequenceExhausted
fault_parts GenerationNotNew = inr GenerationNotNew
fault_parts NoMemory = inr NoMemory

-- a cause, and the place of an object and its fault, if it names one
abbrev pub fault_cases : Cases ((ℕ × PutFault) ⊎ ChangeFault)
fault_cases = case 10 (number w64 ▹ put_fault) (each_case fault_byte plain_faults no_object)

abbrev pub fault : Format ChangeFault
fault = as_type (tagged fault_cases) fault_of fault_parts

-- what each kind of answer has: nothing, a position, conflicts, a fault, and their number
abbrev pub DoneParts : Type 0
DoneParts = Unit ⊎ (Position ⊎ ((Position × List (List ℕ)) ⊎ (ChangeFault ⊎ ((Position × ℕ) ⊎ ⊥))))

abbrev pub done_by : DoneParts → Done
done_by (inl x) = NotWritable
done_by (inr (inl position)) = At position
done_by (inr (inr (inl x))) = Checked x.0 x.1
done_by (inr (inr (inr (inl fault)))) = Refused fault
done_by (inr (inr (inr (inr (inl x))))) = Conflicting x.0 x.1
done_by (inr (inr (inr (inr (inr x))))) = absurd x

abbrev pub done_parts : Done → DoneParts
done_parts NotWritable = inl tt
done_parts (At position) = inr (inl position)
done_parts (Checked position conflicts) = inr (inr (inl (position, conflicts)))
done_parts (Refused fault) = inr (inr (inr (inl fault)))
done_parts (Conflicting position count) = inr (inr (inr (inr (inl (position, count)))))

abbrev pub done_cases : Cases DoneParts
done_cases =
    case 0 nothing (
    case 1 position (
    case 2 (position ▹ paths_within None) (
    case 3 fault (
    case 4 (position ▹ number w32) (no_case BadField)))))

abbrev pub done : Format Done
done = as_type (tagged done_cases) done_by done_parts

abbrev pub answered_of : (Query × Done) ⊎ ⊥ → Query × Done
answered_of (inl x) = x
answered_of (inr x) = absurd x

abbrev pub answered_parts : Query × Done → (Query × Done) ⊎ ⊥
answered_parts x = inl x

abbrev pub answered : Format (Query × Done)
answered = as_type (versioned (tagged (case 134 (query ▹ done) (no_case BadTag)))) answered_of answered_parts

-- the bytes of a body that answers a change
abbrev pub done_bytes : Query → Done → List ℕ
done_bytes query done = answered.spell (query, done)

-- the body answers the query, and each part of the answer has an encoding
pub record SpellsDone (body : List ℕ) (query : Query) (done : Done) : Type 0 where
  pub fields : answered.fits (query, done)
  pub bytes : body ≡ done_bytes query done
  pub limit : length body ≤ body_limit

-- the query that a body answers and what was done, or the first fault
unfoldable pub read_done : List ℕ → Result (Query × Done) DecodeFault
read_done body = read_whole answered body

-- the body of an answer is read as that
abbrev pub DoneAreReadBack : Type 0
DoneAreReadBack = (body : List ℕ) (query : Query) (done : Done) → SpellsDone body query done → read_done body ≡ Ok (query, done)

-- a body that is read as an answer encodes it
abbrev pub ReadDoneAreSpelled : Type 0
ReadDoneAreSpelled = (body : List ℕ) (query : Query) (done : Done) → AreBytes body → read_done body ≡ Ok (query, done) → SpellsDone body query done

-- The answer to a change as a connection carries it: of conflicts that no body holds, only the
-- number is left, or 2^32 - 1 if there are more. A body begins with 26 bytes: the version, the tag
-- and the query.
abbrev pub done_of : Answer → Done
done_of (answers.At position) = At position
done_of (answers.Checked position conflicts) =
    if nat_lt body_limit (26 + length (done.spell (Checked position conflicts))) then Conflicting position (min (length conflicts) (2 ^ 32 - 1)) else Checked position conflicts
done_of (answers.Refused fault) = Refused fault

-- the conflicts, if it lists any, ascend
abbrev pub ListsInOrder : Done → Type 0
ListsInOrder (Checked at conflicts) = Follow is_above None conflicts
ListsInOrder other = Unit {0}

-- what a world answers to a change lists its conflicts so
abbrev pub AnswersListInOrder : Type 0
AnswersListInOrder = (name : Namer) (world : WorldState) (change : Change) → ListsInOrder (done_of (answer_of name world change))
