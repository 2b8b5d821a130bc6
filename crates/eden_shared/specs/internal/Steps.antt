-- What the answer to one body says of the desk, or of the lock, that was asked.
use Rattle.std.specs.Prelude.{◌≡◌, ◌⊎◌, ℕ, ◌+◌, List, [], ◌∷◌, ◌++◌, Option, Ok}
use Rattle.eden_history.specs.declared.answer.Answer.{Answer}
use Rattle.eden_history.specs.declared.change.Change.{Change}
use Rattle.eden_logs.specs.declared.log.LogEntry.{LogEntry}
use Rattle.eden_stream.specs.Frames.{frame}
use Rattle.eden_stream.specs.declared.frame_fault.FrameFault.{FrameFault}
use Rattle.eden_messages.specs.declared.message.Reply.{Reply}
use Rattle.eden_messages.specs.declared.message.Request.{Request}
use Rattle.eden_stream.specs.declared.teller.Step.{Step}
use Rattle.eden_stream.specs.declared.teller.Step.TheVariants.{Told, Fault, NoMemory}
use Rattle.eden_wire.specs.declared.command.Command.{Command}
use Rattle.eden_wire.specs.declared.question.Question.{Question}
use Rattle.eden_wire.specs.declared.question.Wants.{Wants}
use Rattle.eden_shared.specs.Commands.{MakesUnsaid, Reads, Says, changes_of, counting}
use Rattle.eden_shared.specs.Desks.{DeskView}
use Rattle.eden_shared.specs.Passes.{PassView}
use Rattle.eden_shared.specs.Servings.{ComesOf, Exchange, NotesUnsaid}
use Rattle.eden_query.specs.Commands.{Reading}
use Rattle.eden_query.specs.Servings.{IsUnread}
use Rattle.eden_wire.specs.Commands.{read_command}

-- one more call was taken of the desk, and is noted so
pub record Took (old new : DeskView) (entry : LogEntry) : Type 0 where
  pub caller : new.caller ≡ old.caller
  pub amount : new.amount ≡ old.amount + 1
  pub log : new.log ≡ old.log ++ entry ∷ []

-- The desk took one more call, for the command, and the text grew by the frame of what was said.
pub record Takes (Tells : ℕ → Request → Wants → Reply → List ℕ → Type 0) (Makes : ℕ → Change → Answer → Type 0)
    (old new : DeskView) (command : Command) (before text : List ℕ) : Type 0 where
  pub ticket : ℕ
  pub exchange : Exchange
  pub comes : ComesOf Tells Makes ticket command exchange
  pub took : Took old new exchange.entry
  pub text_is : text ≡ before ++ frame exchange.said

-- The desk took one more call, for the command, of which nothing is written.
pub record TakesUnsaid (Tells : ℕ → Request → Wants → Reply → List ℕ → Type 0) (Makes : ℕ → Change → Answer → Type 0)
    (old new : DeskView) (command : Command) : Type 0 where
  pub ticket : ℕ
  pub entry : LogEntry
  pub unsaid : NotesUnsaid Tells Makes ticket command entry
  pub took : Took old new entry

abbrev pub DeskStep : Reading → (ℕ → Request → Wants → Reply → List ℕ → Type 0) → (ℕ → Change → Answer → Type 0) → DeskView → DeskView
    → List ℕ → List ℕ → List ℕ → Step FrameFault → Type 0
DeskStep read Tells Makes old new body before text Told = (command : Command) × (read body ≡ Ok command) × Takes Tells Makes old new command before text
DeskStep read Tells Makes old new body before text (Fault fault) = IsUnread read body fault × (new ≡ old) × (text ≡ before)
DeskStep read Tells Makes old new body before text NoMemory = ((extra : List ℕ) × (text ≡ before ++ extra))
    × ((new ≡ old) ⊎ ((command : Command) × (read body ≡ Ok command) × TakesUnsaid Tells Makes old new command))

-- what it says of a lock of which nothing is logged
abbrev pub UnloggedStep : (Question → List ℕ → Type 0) → (ℕ → Change → Answer → Type 0) → Option PassView → Option PassView
    → List ℕ → List ℕ → List ℕ → Step FrameFault → Type 0
UnloggedStep Tells Makes old new body before text Told = (command : Command) × Reads body command
    × (new ≡ counting (changes_of command) old) × ((said : List ℕ) × Says Tells Makes old command said × (text ≡ before ++ frame said))
UnloggedStep Tells Makes old new body before text (Fault fault) = IsUnread read_command body fault × (new ≡ old) × (text ≡ before)
UnloggedStep Tells Makes old new body before text NoMemory = ((extra : List ℕ) × (text ≡ before ++ extra)) × ((new ≡ old) ⊎ MakesUnsaid Makes body old new)
