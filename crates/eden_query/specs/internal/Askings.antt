-- What the answer to one body says of the server that was asked or changed.
use Rattle.std.specs.Prelude.{◌≡◌, ℕ, ◌⊎◌, List, ◌++◌, Ok}
use Rattle.eden_history.specs.Worlds.{Namer, WorldState}
use Rattle.eden_stream.specs.declared.frame_fault.FrameFault.{FrameFault}
use Rattle.eden_stream.specs.declared.teller.Step.{Step}
use Rattle.eden_stream.specs.declared.teller.Step.TheVariants.{Told, Fault, NoMemory}
use Rattle.eden_wire.specs.declared.command.Command.{Command}
use Rattle.eden_query.specs.Commands.{Encodes, Reading, answer_by, world_past}
use Rattle.eden_query.specs.Servings.{IsUnread}

-- The command took the server from one state to another, once. Where it was the present of a world,
-- it is the present of that world after the command, and a client can read how a change ended.
pub record DoesCommand {T : Type 0} (name : Namer) (stands_for : T → WorldState → Type 0) (does : T → Command → T → Type 0) (old : T) (command : Command) (new : T) : Type 0 where
  pub did : does old command new
  pub stands : (world : WorldState) → stands_for old world → stands_for new (world_past name world (Ok command))
  pub encoded : (world : WorldState) → stands_for old world → Encodes name world (Ok command)

-- where the server was the present of a world, the text grew by what that world answers to the
-- command
abbrev pub SaysCommand : {T : Type 0} → Namer → (T → WorldState → Type 0) → T → Command → List ℕ → List ℕ → Type 0
SaysCommand name stands_for old command from text = (world : WorldState) → stands_for old world
    → (printed : List ℕ) × (answer_by name world (Ok command) ≡ Ok printed) × (text ≡ from ++ printed)

-- The body spells a command, which took the server from one state to another, once.
pub record DoesOne {T : Type 0} (name : Namer) (read : Reading) (stands_for : T → WorldState → Type 0) (does : T → Command → T → Type 0) (old : T) (body : List ℕ) (new : T) : Type 0 where
  pub command : Command
  pub spelled : read body ≡ Ok command
  pub done : DoesCommand name stands_for does old command new

abbrev pub DoesBody : {T : Type 0} → Namer → Reading → (T → WorldState → Type 0) → (T → Command → T → Type 0) → T → List ℕ → T → Step FrameFault → Type 0
DoesBody name read stands_for does old body new Told = DoesOne name read stands_for does old body new
DoesBody name read stands_for does old body new (Fault fault) = IsUnread read body fault × (new ≡ old)
DoesBody name read stands_for does old body new NoMemory = (new ≡ old) ⊎ DoesOne name read stands_for does old body new
