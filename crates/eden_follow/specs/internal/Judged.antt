-- How far notes are checked against the rows of logs.
use Rattle.std.specs.Prelude.{◌≡◌, ℕ, true, false, List, [], Contains, All, Option}
use Rattle.eden_messages.specs.declared.message.Reply.{Reply}
use Rattle.eden_messages.specs.declared.message.Request.{Request}
use Rattle.eden_logs.specs.declared.log.LogEntry.{LogEntry}
use Rattle.eden_headline.specs.declared.note.Note.{Note}
use Rattle.eden_headline.specs.Notes.{came_in, sent_in}
use Rattle.eden_headline.specs.Vouched.{AreVouched, IsAnswered, IsAsked, is_own}
use Rattle.eden_follow.specs.Causes.{FirstCause}
use Rattle.eden_follow.specs.declared.fault.VouchFault.{VouchFault}
use Rattle.eden_follow.specs.declared.fault.VouchFault.TheVariants.{StrangeRequest}
use Rattle.eden_follow.specs.declared.rows.RequestRow.{RequestRow}
use Rattle.eden_follow.specs.internal.Rows.{IsHighest, IsMarked}

-- the rows are those of the entries, in any order
pub record Lists (entries : List LogEntry) (replies : List (ℕ × Reply)) (requests : List (ℕ × Request)) : Type 0 where
  pub told : (ticket : ℕ) (reply : Reply) → Contains replies (ticket, reply) → IsAnswered entries ticket reply
  pub answered : (ticket : ℕ) (reply : Reply) → IsAnswered entries ticket reply → Contains replies (ticket, reply)
  pub asked : (ticket : ℕ) (request : Request) → Contains requests (ticket, request) → IsAsked entries ticket request
  pub asks : (ticket : ℕ) (request : Request) → IsAsked entries ticket request → Contains requests (ticket, request)

-- after these notes the rows are marked, and this is the highest ticket of a reply
pub record IsAt (earlier : List Note) (rows : List RequestRow) (highest : Option ℕ) : Type 0 where
  pub marked : All (IsMarked (sent_in earlier)) rows
  pub is_highest : IsHighest (came_in earlier) highest

-- what is found of the remaining notes decides for all of them
pub record Walks (entries : List LogEntry) (whole earlier left : List Note) : Type 0 where
  pub vouched : AreVouched entries earlier left → AreVouched entries [] whole
  pub cause : (f : VouchFault) → FirstCause entries earlier left f → FirstCause entries [] whole f

-- a row of this id and life is not marked
pub record HasStrange (rows : List RequestRow) (id life : ℕ) (fault : VouchFault) : Type 0 where
  pub is : fault ≡ StrangeRequest
  pub row : RequestRow
  pub there : Contains rows row
  pub own : is_own id life row.request.now ≡ true
  pub unsent : row.sent ≡ false
