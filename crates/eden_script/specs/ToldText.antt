-- The result of a line, as it is printed. Byte 10 is a line feed, 32 a space.
use Rattle.std.specs.Prelude.{ℕ, ◌==◌, if◌then◌else◌, List, [], ◌∷◌, ◌++◌, length, codes, Option, Some, None}
use Rattle.std.specs.Fmt.{decimal}
use Rattle.std.specs.List.{flat_map}
use Rattle.hex.specs.Hex.{encode_lower}
use Rattle.eden_ids.specs.declared.id.Id.{Id}
use Rattle.eden_ids.specs.declared.content.Kind.{Kind}
use Rattle.eden_ids.specs.declared.content.Kind.TheVariants.{Plain, Exec, Link}
use Rattle.eden_ids.specs.declared.path.PathFault.{PathFault}
use Rattle.eden_ids.specs.declared.path.PathFault.TheVariants as path
use Rattle.eden_ids.specs.Sameness.{same_id}
use Rattle.eden_globs.specs.declared.filter.FilterFault.{FilterFault}
use Rattle.eden_globs.specs.declared.filter.FilterFault.TheVariants as patterns
use Rattle.eden_objects.specs.declared.fault.PutFault.{PutFault}
use Rattle.eden_objects.specs.declared.fault.PutFault.TheVariants as put
use Rattle.eden_objects.specs.Objects.{zero_id}
use Rattle.eden_history.specs.declared.answer.Answer.{Answer}
use Rattle.eden_history.specs.declared.answer.Answer.TheVariants.{At, Checked, Refused}
use Rattle.eden_history.specs.declared.answer.SinceFault.{SinceFault}
use Rattle.eden_history.specs.declared.answer.SinceFault.TheVariants as since
use Rattle.eden_history.specs.declared.change.ChangeFault.{ChangeFault}
use Rattle.eden_history.specs.declared.change.ChangeFault.TheVariants as fault
use Rattle.eden_history.specs.declared.mark.Mark.{Mark}
use Rattle.eden_history.specs.declared.mark.Mark.TheVariants.{Created, Removed, Changed, Root}
use Rattle.eden_history.specs.declared.mark.Marked.{Marked}
use Rattle.eden_history.specs.declared.position.Position.{Position}
use Rattle.eden_script.specs.declared.label.Binding.{Binding}
use Rattle.eden_script.specs.declared.told.Refusal.{Refusal}
use Rattle.eden_script.specs.declared.told.Refusal.TheVariants as refusal
use Rattle.eden_script.specs.declared.told.Told.{Told}
use Rattle.eden_script.specs.declared.told.Told.TheVariants as told
use Rattle.eden_script.specs.Escapes.{escaped}
use Rattle.eden_script.specs.Labels.{label_of}

-- ---- positions

abbrev pub labelled : Id → Option (List ℕ) → List ℕ
labelled id (Some label) = label
labelled id None = encode_lower id.0

-- a root is printed as `empty` if it is the empty commit, else as the first label ever
-- bound to it that still is, else in hexadecimal
abbrev pub root_text : List Binding → Id → List ℕ
root_text bindings id = if same_id id zero_id then codes "empty" else labelled id (label_of bindings id)

abbrev pub position_text : List Binding → Position → List ℕ
position_text bindings position =
    decimal position.generation ++ (32 ∷ decimal position.sequence) ++ (32 ∷ root_text bindings position.root)

-- ---- refusals: the name of the cause, and a number if it has one

abbrev pub put_fault_name : PutFault → List ℕ
put_fault_name put.TooLarge = codes "TooLarge"
put_fault_name put.IdTaken = codes "IdTaken"
put_fault_name put.ZeroId = codes "ZeroId"
put_fault_name put.BadMode = codes "BadMode"
put_fault_name put.BadName = codes "BadName"
put_fault_name put.OutOfOrder = codes "OutOfOrder"
put_fault_name put.Duplicate = codes "Duplicate"
put_fault_name put.MissingChild = codes "MissingChild"
put_fault_name put.WrongChildKind = codes "WrongChildKind"
put_fault_name put.TooDeep = codes "TooDeep"
put_fault_name put.PathTooLong = codes "PathTooLong"
put_fault_name put.CutShort = codes "CutShort"
put_fault_name put.BadCommit = codes "BadCommit"
put_fault_name put.NoMemory = codes "NoMemory"

abbrev pub path_fault_name : PathFault → List ℕ
path_fault_name path.Empty = codes "Empty"
path_fault_name path.TooLong = codes "TooLong"
path_fault_name path.BadComponent = codes "BadComponent"
path_fault_name path.TooDeep = codes "TooDeep"
path_fault_name path.NoMemory = codes "NoMemory"

abbrev pub change_fault_name : ChangeFault → List ℕ
change_fault_name fault.NotADirectory = codes "NotADirectory"
change_fault_name fault.IsADirectory = codes "IsADirectory"
change_fault_name fault.NoEntry = codes "NoEntry"
change_fault_name fault.TooLarge = codes "TooLarge"
change_fault_name fault.IntoItself = codes "IntoItself"
change_fault_name fault.PathTooLong = codes "PathTooLong"
change_fault_name fault.NoCommit = codes "NoCommit"
change_fault_name fault.SequenceExhausted = codes "SequenceExhausted"
change_fault_name fault.GenerationNotNew = codes "GenerationNotNew"
change_fault_name (fault.BadObject place cause) = codes "BadObject"
change_fault_name fault.NoMemory = codes "NoMemory"

abbrev pub filter_fault_name : FilterFault → List ℕ
filter_fault_name patterns.TooMany = codes "TooMany"
filter_fault_name patterns.PatternTooLong = codes "PatternTooLong"
filter_fault_name (patterns.BadPattern place) = codes "BadPattern"
filter_fault_name patterns.NoMemory = codes "NoMemory"

abbrev pub since_fault_name : SinceFault → List ℕ
since_fault_name (since.Stale generation) = codes "Stale"
since_fault_name (since.Ahead head) = codes "Ahead"
since_fault_name (since.Truncated floor) = codes "Truncated"
since_fault_name since.NoMemory = codes "NoMemory"

abbrev pub refusal_name : Refusal → List ℕ
refusal_name refusal.NoLabel = codes "NoLabel"
refusal_name refusal.Mounted = codes "Mounted"
refusal_name refusal.NotMounted = codes "NotMounted"
refusal_name refusal.NoCommit = codes "NoCommit"
refusal_name (refusal.Put fault) = put_fault_name fault
refusal_name (refusal.Path fault) = path_fault_name fault
refusal_name (refusal.File fault) = change_fault_name fault
refusal_name (refusal.Patterns fault) = filter_fault_name fault
refusal_name (refusal.Since fault) = since_fault_name fault

abbrev pub refusal_number : Refusal → Option ℕ
refusal_number (refusal.Patterns (patterns.BadPattern place)) = Some place
refusal_number (refusal.Since (since.Stale generation)) = Some generation
refusal_number (refusal.Since (since.Ahead head)) = Some head
refusal_number (refusal.Since (since.Truncated floor)) = Some floor
refusal_number cause = None

abbrev pub number_text : Option ℕ → List ℕ
number_text None = []
number_text (Some n) = 32 ∷ decimal n

abbrev pub refused_text : List ℕ → Option ℕ → List ℕ
refused_text name number = codes "refused " ++ name ++ number_text number ++ (10 ∷ [])

-- ---- paths, files and changes

abbrev pub mark_text : Mark → List ℕ
mark_text Created = codes "Created"
mark_text Removed = codes "Removed"
mark_text Changed = codes "Changed"
mark_text Root = codes "Root"

abbrev pub marked_text : Marked → List ℕ
marked_text marked = mark_text marked.mark ++ (32 ∷ escaped marked.path) ++ (10 ∷ [])

-- a path on a line of its own
abbrev pub path_text : List ℕ → List ℕ
path_text path = escaped path ++ (10 ∷ [])

-- a heading and the number of paths, then each of them
abbrev pub paths_text : List ℕ → List (List ℕ) → List ℕ
paths_text name paths = name ++ decimal (length paths) ++ (10 ∷ []) ++ flat_map path_text paths

abbrev pub kind_text : Kind → List ℕ
kind_text Plain = codes "plain"
kind_text Exec = codes "exec"
kind_text Link = codes "link"

-- ---- results of lines

abbrev pub at_text : List Binding → Position → List ℕ
at_text bindings position = codes "at " ++ position_text bindings position ++ (10 ∷ [])

abbrev pub answer_text : List Binding → Answer → List ℕ
answer_text bindings (At position) = at_text bindings position
answer_text bindings (Checked position conflicts) = at_text bindings position ++ paths_text (codes "conflicts ") conflicts
answer_text bindings (Refused fault) = refused_text (change_fault_name fault) None

abbrev pub ok_text : List ℕ
ok_text = codes "ok" ++ (10 ∷ [])

abbrev pub id_text : Id → List ℕ
id_text id = codes "id " ++ encode_lower id.0 ++ (10 ∷ [])

abbrev pub content_text : Kind → List ℕ → List ℕ
content_text kind bytes = kind_text kind ++ (32 ∷ escaped bytes) ++ (10 ∷ [])

-- the directories that were renamed, old and new, if there are any
abbrev pub prefixes_text : List (List ℕ) → List ℕ
prefixes_text prefixes = if length prefixes == 0 then [] else paths_text (codes "prefixes ") prefixes

abbrev pub changes_text : List Binding → List Marked → List (List ℕ) → Position → List ℕ
changes_text bindings marked prefixes position =
    codes "changes " ++ decimal (length marked) ++ codes " to " ++ position_text bindings position ++ (10 ∷ [])
    ++ flat_map marked_text marked ++ prefixes_text prefixes

abbrev pub told_text : List Binding → Told → List ℕ
told_text bindings told.Done = ok_text
told_text bindings (told.Id id) = id_text id
told_text bindings (told.Answer answer) = answer_text bindings answer
told_text bindings (told.Refused cause) = refused_text (refusal_name cause) (refusal_number cause)
told_text bindings (told.Files paths) = paths_text (codes "files ") paths
told_text bindings (told.Dirty paths) = paths_text (codes "dirty ") paths
told_text bindings (told.File kind bytes) = content_text kind bytes
told_text bindings (told.Changes marked prefixes to) = changes_text bindings marked prefixes to
