-- What the frames of a stream ask of a desk and change there, and what is written of it.
use Rattle.std.specs.Prelude.{◌≡◌, ◌⊎◌, Bool, true, false, ℕ, ◌+◌, List, [], ◌∷◌, ◌++◌, length, map, Result, Ok, Err}
use Rattle.std.specs.List.{AllZip, flat_map}
use Rattle.eden_logs.specs.declared.log.LogEntry.{LogEntry}
use Rattle.eden_stream.specs.Frames.{frame}
use Rattle.eden_stream.specs.declared.frame_fault.FrameFault.{FrameFault}
use Rattle.eden_logs.specs.Calls.{answer_made}
use Rattle.eden_logs.specs.declared.call.CallAnswer.TheVariants.{Replied, Unanswered}
use Rattle.eden_logs.specs.declared.call.Call.{Call}
use Rattle.eden_logs.specs.declared.call.Call.TheVariants as calls
use Rattle.eden_messages.specs.declared.message.Reply.{Reply}
use Rattle.eden_messages.specs.declared.message.Request.{Request}
use Rattle.eden_history.specs.declared.answer.Answer.{Answer}
use Rattle.eden_history.specs.declared.change.Change.{Change}
use Rattle.eden_messages.specs.Spells.{SpellsReply, reply_bytes}
use Rattle.eden_query.specs.Commands.{Reading}
use Rattle.eden_query.specs.Servings.{IsUnread}
use Rattle.eden_stream.specs.Stories.{Story}
use Rattle.eden_wire.specs.declared.asked.Asked.{Asked}
use Rattle.eden_wire.specs.declared.command.Command.{Command}
use Rattle.eden_wire.specs.declared.command.Command.TheVariants.{Ask, Do}
use Rattle.eden_wire.specs.declared.command.Doing.{Doing}
use Rattle.eden_wire.specs.declared.fault.DecodeFault.{DecodeFault}
use Rattle.eden_wire.specs.Asked.{read_asked}
use Rattle.eden_wire.specs.Commands.{SpellsDone, done_of, read_command}
use Rattle.eden_wire.specs.Questions.{request_of, wants_of}
use Rattle.eden_wire.specs.declared.question.Wants.{Wants}
use Rattle.eden_shared.specs.Desks.{DeskView, noted}

abbrev pub as_ask : Result Asked DecodeFault → Result Command DecodeFault
as_ask (Ok asked) = Ok (Ask asked)
as_ask (Err fault) = Err fault

-- how a service reads a body that makes no changes: as a question that may come after a patience
abbrev pub read_patient : Reading
read_patient body = as_ask (read_asked body)

-- how one reads it that makes changes, or one that makes none
abbrev pub reading : Bool → Reading
reading true body = read_command body
reading false body = read_patient body

-- the call that a command makes
abbrev pub call_of : Command → Call
call_of (Ask asked) = calls.Ask (request_of asked.question)
call_of (Do doing) = calls.Change doing.change

-- what comes of a body: the entry that is noted, and the body that is said
pub record Exchange : Type 0 where
  pub entry : LogEntry
  pub said : List ℕ

-- the entries that are noted, in order
abbrev pub entries_of : List Exchange → List LogEntry
entries_of exchanges = map (λ e. e.entry) exchanges

-- the frames of what is said, in order
abbrev pub frames_of : List Exchange → List ℕ
frames_of exchanges = flat_map (λ (e : Exchange). frame e.said) exchanges

-- The entry notes the request of the question, and a reply that was made to it under the ticket and
-- that its bytes spell. What is said is what the question wants of that.
pub record AsksOne (Told : ℕ → Request → Wants → Reply → List ℕ → Type 0) (ticket : ℕ) (asked : Asked) (exchange : Exchange) : Type 0 where
  pub reply : Reply
  pub entry_is : exchange.entry ≡ noted ticket (calls.Ask (request_of asked.question)) (Replied reply)
  pub told : Told ticket (request_of asked.question) (wants_of asked.question) reply exchange.said
  pub spelled : SpellsReply (reply_bytes reply) reply

-- The entry notes the change, and the answer with which it was made under the ticket. What is said
-- spells, to the client's query, how the change ended.
pub record ChangesOne (Made : ℕ → Change → Answer → Type 0) (ticket : ℕ) (doing : Doing) (exchange : Exchange) : Type 0 where
  pub answer : Answer
  pub entry_is : exchange.entry ≡ noted ticket (calls.Change doing.change) (answer_made answer)
  pub made : Made ticket doing.change answer
  pub said_is : SpellsDone exchange.said doing.query (done_of answer)

-- what comes of a command under a ticket
abbrev pub ComesOf : (ℕ → Request → Wants → Reply → List ℕ → Type 0) → (ℕ → Change → Answer → Type 0) → ℕ → Command → Exchange → Type 0
ComesOf Told Made ticket (Ask asked) exchange = AsksOne Told ticket asked exchange
ComesOf Told Made ticket (Do doing) exchange = ChangesOne Made ticket doing exchange

-- The exchange is what comes of the command that the body spells.
pub record DoesOne (read : Reading) (Told : ℕ → Request → Wants → Reply → List ℕ → Type 0) (Made : ℕ → Change → Answer → Type 0)
    (body : List ℕ) (exchange : Exchange) : Type 0 where
  pub ticket : ℕ
  pub command : Command
  pub reads : read body ≡ Ok command
  pub comes : ComesOf Told Made ticket command exchange

-- The desk did what the bodies ask for, in order, each once and nothing else, and noted it. The text
-- is the frames of what was said.
pub record Serves (read : Reading) (Told : ℕ → Request → Wants → Reply → List ℕ → Type 0) (Made : ℕ → Change → Answer → Type 0)
    (before after : DeskView) (bodies : List (List ℕ)) (text : List ℕ) : Type 0 where
  pub exchanges : List Exchange
  pub caller : after.caller ≡ before.caller
  pub amount : after.amount ≡ before.amount + length exchanges
  pub log : after.log ≡ before.log ++ entries_of exchanges
  pub does : AllZip (DoesOne read Told Made) bodies exchanges
  pub text_is : text ≡ frames_of exchanges

-- the entry notes the command under the ticket, without an answer or with one of which nothing was
-- written
abbrev pub NotesUnsaid : (ℕ → Request → Wants → Reply → List ℕ → Type 0) → (ℕ → Change → Answer → Type 0) → ℕ → Command → LogEntry → Type 0
NotesUnsaid Told Made ticket command entry = (entry ≡ noted ticket (call_of command) Unanswered)
    ⊎ ((said : List ℕ) × ComesOf Told Made ticket command (record { entry = entry; said = said }))

-- The entry notes so the command that the body spells.
pub record DoesLast (read : Reading) (Told : ℕ → Request → Wants → Reply → List ℕ → Type 0) (Made : ℕ → Change → Answer → Type 0)
    (body : List ℕ) (entry : LogEntry) : Type 0 where
  pub ticket : ℕ
  pub command : Command
  pub reads : read body ≡ Ok command
  pub unsaid : NotesUnsaid Told Made ticket command entry

-- So it did, and after them what this body asks for, of which nothing is written.
pub record GivesUp (read : Reading) (Told : ℕ → Request → Wants → Reply → List ℕ → Type 0) (Made : ℕ → Change → Answer → Type 0)
    (before after : DeskView) (bodies : List (List ℕ)) (body text : List ℕ) : Type 0 where
  pub exchanges : List Exchange
  pub last : LogEntry
  pub caller : after.caller ≡ before.caller
  pub amount : after.amount ≡ before.amount + length exchanges + 1
  pub log : after.log ≡ before.log ++ (entries_of exchanges ++ last ∷ [])
  pub does : AllZip (DoesOne read Told Made) bodies exchanges
  pub does_last : DoesLast read Told Made body last
  pub text_is : text ≡ frames_of exchanges

-- What frames say of a desk that they ask and that makes their changes. A body that can't be read
-- asks for nothing; if there was no memory to answer one, it was done once, or not at all.
abbrev pub desk_story : Reading → (ℕ → Request → Wants → Reply → List ℕ → Type 0) → (ℕ → Change → Answer → Type 0) → DeskView → DeskView → Story FrameFault
desk_story read Told Made before now = record {
  told = Serves read Told Made before now;
  lost = Serves read Told Made before now;
  refused = λ bodies body fault. IsUnread read body fault;
  spent = λ bodies body text. Serves read Told Made before now bodies text ⊎ GivesUp read Told Made before now bodies body text;
}
