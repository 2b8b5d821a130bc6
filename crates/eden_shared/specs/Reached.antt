-- What a server is after a number of calls.
use Rattle.std.specs.Prelude.{◌≡◌, ◌⊎◌, ℕ, zero, suc, List, [], ◌∷◌, length, Option, Some}
use Rattle.eden_history.specs.declared.answer.Answer.{Answer}
use Rattle.eden_history.specs.declared.change.Change.{Change}
use Rattle.eden_history.specs.Outcome.{world_after}
use Rattle.eden_history.specs.Worlds.{Namer, WorldState}
use Rattle.eden_messages.specs.declared.message.Request.{Request}
use Rattle.eden_query.specs.declared.raw.Raw.{Raw}

-- the world after these changes, one after another
abbrev pub world_after_all : Namer → WorldState → List Change → WorldState
world_after_all name world [] = world
world_after_all name world (change ∷ changes) = world_after_all name (world_after name world change) changes

-- There are as many changes as the number says. Of each opening world they make one for which the
-- server stands.
pub record Reaches {T : Type 0} (name : Namer) (stands_for : T → WorldState → Type 0) (opens : WorldState → Type 0) (number : ℕ) (server : T) : Type 0 where
  pub changes : List Change
  pub number_is : length changes ≡ number
  pub stands : (world : WorldState) → opens world → stands_for server (world_after_all name world changes)

-- There are such changes: the server is what exactly N changes have made of its opening.
abbrev pub IsReached : {T : Type 0} → Namer → (T → WorldState → Type 0) → (WorldState → Type 0) → ℕ → T → Type 0
IsReached name stands_for opens number server = ∥ Reaches name stands_for opens number server ∥₁

-- One call took the server from the first state to the second: a change, or a request.
abbrev pub Calls : {T : Type 0} → (T → ℕ → Change → Answer → T → Type 0) → (T → ℕ → Request → Raw → T → Type 0) → T → T → Type 0
Calls apply_gives hold_gives before after = ((caller : ℕ) × (change : Change) × (answer : Answer) × apply_gives before caller change answer after)
    ⊎ ((caller : ℕ) × (request : Request) × (raw : Raw) × hold_gives before caller request raw after)

-- So many calls, one after another, took it from the first state to the last.
abbrev pub Descends : {T : Type 0} → (T → T → Type 0) → T → ℕ → T → Type 0
Descends Step first zero last = last ≡ first
Descends {T} Step first (suc number) last = (mid : T) × Descends Step first number mid × Step mid last

-- The server descends by exactly N calls from one whose stored history is empty.
abbrev pub IsDescended : {T : Type 0} → (T → Option ℕ) → (T → ℕ → Change → Answer → T → Type 0) → (T → ℕ → Request → Raw → T → Type 0) → ℕ → T → Type 0
IsDescended {T} stored apply_gives hold_gives number server =
    ∥ ((first : T) × (stored first ≡ Some 0) × Descends (Calls apply_gives hold_gives) first number server) ∥₁
