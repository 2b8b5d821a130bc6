-- What is known of an answer that came from behind a lock: of which state of the server it is the
-- right one.
--
-- What is known of that state is a parameter: a statement about a number and a state. A lock that
-- stores a history numbers its calls, and the number is the call's ticket. A lock that stores none
-- counts its changes, and the number is how many came before.
use Rattle.std.specs.Prelude.{◌≡◌, ℕ, ◌-◌, List, Option, Some}
use Rattle.eden_history.specs.declared.answer.Answer.{Answer}
use Rattle.eden_history.specs.declared.change.Change.{Change}
use Rattle.eden_history.specs.Outcome.{answer_of}
use Rattle.eden_history.specs.Worlds.{Namer, WorldState}
use Rattle.eden_messages.specs.declared.message.Reply.{Reply}
use Rattle.eden_messages.specs.declared.message.Request.{Request}
use Rattle.eden_messages.specs.Replies.{reply_of}
use Rattle.eden_objects.specs.Objects.{Held}
use Rattle.eden_query.specs.declared.raw.Raw.{Raw}
use Rattle.eden_query.specs.Raws.{patterns_of, told, wanted_told}
use Rattle.eden_wire.specs.declared.question.Wants.{Wants}
use Rattle.eden_wire.specs.Wanted.{wanted_of}

-- The server has taken one call fewer than the ticket says: it is the ticket's turn.
abbrev pub IsTurnOf : {T : Type 0} → (T → Option ℕ) → ℕ → T → Type 0
IsTurnOf stored ticket server = stored server ≡ Some (ticket - 1)

-- The call was made of a state of which this is known. The state stands for some world. In each
-- world for which it stands, this is the answer. The call took it to a next state.
abbrev pub Gave : {T : Type 0} → (T → Type 0) → (T → WorldState → Type 0) → (WorldState → Type 0) → (T → T → Type 0) → Type 0
Gave {T} Known stands_for answers gives = (before : T) × Known before × ((world : WorldState) × stands_for before world)
    × ((world : WorldState) → stands_for before world → answers world) × ((after : T) × gives before after)

-- The caller made the change of such a state, and this is the answer.
pub record IsMade {T : Type 0} (Known : ℕ → T → Type 0) (name : Namer) (stands_for : T → WorldState → Type 0)
    (apply_gives : T → ℕ → Change → Answer → T → Type 0) (caller number : ℕ) (change : Change) (answer : Answer) : Type 0 where
  pub gave : Gave (Known number) stands_for (λ world. answer ≡ answer_of name world change) (λ before after. apply_gives before caller change answer after)

-- This was held of such a state, with its objects, for the caller's request. The two make the
-- reply, and what else is said of it.
pub record IsHeld {T : Type 0} (Known : ℕ → T → Type 0) (name : Namer) (stands_for : T → WorldState → Type 0) (held : T → List Held)
    (hold_gives : T → ℕ → Request → Raw → T → Type 0) (caller number : ℕ) (request : Request) (raw : Raw) (objects : List Held) : Type 0 where
  pub gave : Gave (Known number) stands_for (λ world. (told objects (patterns_of request) raw ≡ reply_of world request)
      × ((wants : Wants) → wanted_told name objects (patterns_of request) wants raw ≡ wanted_of name world wants request))
      (λ before after. (objects ≡ held before) × hold_gives before caller request raw after)

-- The caller asked the request of such a state, and this is the reply.
pub record IsTold {T : Type 0} (Known : ℕ → T → Type 0) (stands_for : T → WorldState → Type 0) (held : T → List Held)
    (hold_gives : T → ℕ → Request → Raw → T → Type 0) (caller number : ℕ) (request : Request) (reply : Reply) : Type 0 where
  pub gave : Gave (Known number) stands_for (λ world. reply ≡ reply_of world request)
      (λ before after. (raw : Raw) × (reply ≡ told (held before) (patterns_of request) raw) × hold_gives before caller request raw after)

-- The caller asked the request of such a state, this is the reply, and this body is said in its
-- place.
pub record IsSaid {T : Type 0} (Known : ℕ → T → Type 0) (name : Namer) (stands_for : T → WorldState → Type 0) (held : T → List Held)
    (hold_gives : T → ℕ → Request → Raw → T → Type 0) (caller number : ℕ) (request : Request) (wants : Wants) (reply : Reply) (body : List ℕ) : Type 0 where
  pub gave : Gave (Known number) stands_for (λ world. (reply ≡ reply_of world request) × (body ≡ wanted_of name world wants request))
      (λ before after. (raw : Raw) × (reply ≡ told (held before) (patterns_of request) raw)
      × (body ≡ wanted_told name (held before) (patterns_of request) wants raw) × hold_gives before caller request raw after)
