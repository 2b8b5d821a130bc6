-- Why logs do not vouch for a follower: the first cause that applies.
use Rattle.std.specs.Prelude.{◌≤◌, ◌≡◌, ◌⊎◌, ℕ, true, List, [], ◌∷◌, ◌++◌, Contains}
use Rattle.eden_messages.specs.declared.message.Request.{Request}
use Rattle.eden_messages.specs.Mirrors.{MirrorState}
use Rattle.eden_logs.specs.declared.log.CallLog.{CallLog}
use Rattle.eden_logs.specs.declared.log.LogEntry.{LogEntry}
use Rattle.eden_logs.specs.Logs.{entries_in}
use Rattle.eden_headline.specs.declared.note.Note.{Note}
use Rattle.eden_headline.specs.declared.note.Note.TheVariants.{Sent, Came}
use Rattle.eden_headline.specs.Notes.{came_in, sent_in}
use Rattle.eden_headline.specs.Vouched.{AreVouched, IsAnswered, IsAsked, IsVouchedNote, is_own}
use Rattle.eden_follow.specs.declared.fault.VouchFault.{VouchFault}
use Rattle.eden_follow.specs.declared.fault.VouchFault.TheVariants.{StrangeReply, BeforeCause, StrangeRequest, NoMemory}

-- the request is sent for the first time, and was taken no later than a request whose
-- reply had come
pub record IsLate (entries : List LogEntry) (earlier : List Note) (request : Request) : Type 0 where
  pub first : Contains (sent_in earlier) request → ⊥
  pub ticket : ℕ
  pub asked : IsAsked entries ticket request
  pub came : ℕ
  pub before : Contains (came_in earlier) came
  pub late : ticket ≤ came

-- the cause at a note that comes after these
abbrev pub IsCause : List LogEntry → List Note → Note → VouchFault → Type 0
IsCause entries earlier (Came ticket reply) StrangeReply = IsAnswered entries ticket reply → ⊥
IsCause entries earlier (Sent requests) BeforeCause = (request : Request) × (Contains requests request × IsLate entries earlier request)
IsCause entries earlier note fault = ⊥

-- the first of these notes with a cause has this one
abbrev pub FirstCause : List LogEntry → List Note → List Note → VouchFault → Type 0
FirstCause entries earlier [] fault = ⊥
FirstCause entries earlier (note ∷ notes) fault = IsCause entries earlier note fault
    ⊎ (IsVouchedNote entries earlier note × FirstCause entries (earlier ++ note ∷ []) notes fault)

-- no note has a cause, and an entry has a request of the follower that was never sent
pub record HasStrangeRequest (entries : List LogEntry) (id life : ℕ) (notes : List Note) : Type 0 where
  pub along : AreVouched entries [] notes
  pub ticket : ℕ
  pub request : Request
  pub asked : IsAsked entries ticket request
  pub own : is_own id life request ≡ true
  pub never : Contains (sent_in notes) request → ⊥

-- why logs do not vouch for a mirror with these notes
abbrev pub IsAgainst : List CallLog → MirrorState → List Note → VouchFault → Type 0
IsAgainst logs m notes StrangeReply = FirstCause (entries_in logs) [] notes StrangeReply
IsAgainst logs m notes BeforeCause = FirstCause (entries_in logs) [] notes BeforeCause
IsAgainst logs m notes StrangeRequest = HasStrangeRequest (entries_in logs) m.id m.life notes
IsAgainst logs m notes NoMemory = Unit {0}
