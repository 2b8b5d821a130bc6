-- When logs vouch for what a follower noted.
use Rattle.std.specs.Prelude.{◌≡◌, ◌<◌, ◌⊎◌, ℕ, ◌==◌, Bool, true, ◌&&◌, List, [], ◌∷◌, ◌++◌, Contains}
use Rattle.eden_logs.specs.declared.call.CallAnswer.TheVariants.{Replied}
use Rattle.eden_logs.specs.declared.call.Call.TheVariants.{Ask}
use Rattle.eden_messages.specs.declared.message.Reply.{Reply}
use Rattle.eden_messages.specs.declared.message.Request.{Request}
use Rattle.eden_messages.specs.Mirrors.{MirrorState, query_of}
use Rattle.eden_logs.specs.declared.log.CallLog.{CallLog}
use Rattle.eden_logs.specs.declared.log.LogEntry.{LogEntry}
use Rattle.eden_logs.specs.Logs.{entries_in}
use Rattle.eden_headline.specs.declared.note.Note.{Note}
use Rattle.eden_headline.specs.declared.note.Note.TheVariants.{Began, Sent, Came}
use Rattle.eden_headline.specs.Notes.{came_in, sent_in}

-- an entry has this reply as the answer under this ticket
pub record IsAnswered (entries : List LogEntry) (ticket : ℕ) (reply : Reply) : Type 0 where
  pub entry : LogEntry
  pub there : Contains entries entry
  pub under : entry.ticket ≡ ticket
  pub told : entry.answer ≡ Replied reply

-- an entry has this request under this ticket, whether its reply was delivered or not
pub record IsAsked (entries : List LogEntry) (ticket : ℕ) (request : Request) : Type 0 where
  pub entry : LogEntry
  pub there : Contains entries entry
  pub under : entry.ticket ≡ ticket
  pub asks : entry.call ≡ Ask request

-- the request was sent before, or it was taken after each request whose reply had come
abbrev pub IsTimely : List LogEntry → List Note → Request → Type 0
IsTimely entries earlier request = Contains (sent_in earlier) request
    ⊎ ((ticket : ℕ) → IsAsked entries ticket request → (came : ℕ) → Contains (came_in earlier) came → came < ticket)

-- the logs vouch for a note that comes after these
abbrev pub IsVouchedNote : List LogEntry → List Note → Note → Type 0
IsVouchedNote entries earlier Began = Unit {0}
IsVouchedNote entries earlier (Sent requests) = (request : Request) → Contains requests request → IsTimely entries earlier request
IsVouchedNote entries earlier (Came ticket reply) = IsAnswered entries ticket reply

abbrev pub AreVouched : List LogEntry → List Note → List Note → Type 0
AreVouched entries earlier [] = Unit {0}
AreVouched entries earlier (note ∷ notes) = IsVouchedNote entries earlier note × AreVouched entries (earlier ++ note ∷ []) notes

-- the request is under the mirror's id and life
abbrev pub is_own : ℕ → ℕ → Request → Bool
is_own id life request = (query_of request).mirror == id && (query_of request).life == life

-- each request under this id and life that an entry has was sent
abbrev pub AllSent : List LogEntry → ℕ → ℕ → List Note → Type 0
AllSent entries id life notes = (ticket : ℕ) (request : Request) → IsAsked entries ticket request → is_own id life request ≡ true → Contains (sent_in notes) request

-- each reply that came is an answer in the logs, and each request of the follower in them
-- was sent in time
pub record IsVouched (logs : List CallLog) (m : MirrorState) (notes : List Note) : Type 0 where
  pub along : AreVouched (entries_in logs) [] notes
  pub sent : AllSent (entries_in logs) m.id m.life notes
