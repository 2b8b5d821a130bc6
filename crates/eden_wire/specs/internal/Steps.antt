-- What the parts of the decoder give.
use Rattle.std.specs.Prelude.{ℕ, ◌≤◌, All, List, [], ◌∷◌, Result, Ok, Err, is_none, length, ◌==◌, if◌then◌else◌}
use Rattle.eden_ids.specs.Paths.{path_fault}
use Rattle.eden_globs.specs.Filters.{Patterns, filter_fault, including}
use Rattle.eden_objects.specs.declared.import.Object.{Object}
use Rattle.eden_history.specs.declared.change.Change.{Change}
use Rattle.eden_history.specs.declared.change.Change.TheVariants as changes
use Rattle.eden_history.specs.declared.change.ChangeFault.{ChangeFault}
use Rattle.eden_history.specs.declared.change.ChangeFault.TheVariants as faults
use Rattle.eden_messages.specs.declared.message.Cause.{Cause}
use Rattle.eden_messages.specs.declared.message.Cause.TheVariants as causes
use Rattle.eden_wire.specs.declared.fault.DecodeFault.{DecodeFault}
use Rattle.eden_wire.specs.declared.fault.DecodeFault.TheVariants.{BadField}
use Rattle.eden_wire.specs.Commands.{put_byte}
use Rattle.eden_wire.specs.Formats.{◌>>=◌, Format}

abbrev pub path_of : List ℕ → Result (List ℕ) DecodeFault
path_of bytes = if is_none (path_fault bytes) then Ok bytes else Err BadField

abbrev pub filter_of : List (List ℕ) → Result Patterns DecodeFault
filter_of patterns = if is_none (filter_fault patterns) then Ok (including patterns) else Err BadField

-- the cause of a byte from 1 to 4, with its number
abbrev pub cause_by : ℕ → ℕ → Result Cause DecodeFault
cause_by byte value =
    if byte == 1 then Ok (causes.Stale value) else
    if byte == 2 then Ok (causes.Ahead value) else
    if byte == 3 then Ok (causes.Truncated value) else
    if value == 0 then Ok causes.TooLarge else Err BadField

-- a field read by this format, as the value that it gives
abbrev pub read_as : {A B : Type 0} → Format A → (A → B) → List ℕ → Result (B × List ℕ) DecodeFault
read_as format value bytes = format.read bytes >>= λ x. Ok (value x.0, x.1)

-- the place and the fault's number of the object that is refused, or zeros
abbrev pub object_in : ChangeFault → ℕ × ℕ
object_in (faults.BadObject place fault) = (place, put_byte fault)
object_in faults.NotADirectory = (0, 0)
object_in faults.IsADirectory = (0, 0)
object_in faults.NoEntry = (0, 0)
object_in faults.TooLarge = (0, 0)
object_in faults.IntoItself = (0, 0)
object_in faults.PathTooLong = (0, 0)
object_in faults.NoCommit = (0, 0)
object_in faults.SequenceExhausted = (0, 0)
object_in faults.GenerationNotNew = (0, 0)
object_in faults.NoMemory = (0, 0)

abbrev pub IsSmallObject : Object → Type 0
IsSmallObject object = length object.payload ≤ 8388608

-- the bytes of the file, or of each object, are not too many
abbrev pub IsSmallChange : Change → Type 0
IsSmallChange (changes.Write path kind bytes) = length bytes ≤ 8388608
IsSmallChange (changes.Remove path) = Unit {0}
IsSmallChange (changes.Rename old new) = Unit {0}
IsSmallChange (changes.RenameDir old new) = Unit {0}
IsSmallChange (changes.Checkout commit mode) = Unit {0}
IsSmallChange (changes.Reset commit) = Unit {0}
IsSmallChange changes.Flush = Unit {0}
IsSmallChange (changes.Remount generation) = Unit {0}
IsSmallChange (changes.Import objects) = All IsSmallObject objects
