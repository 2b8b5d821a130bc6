-- What the frames of a stream ask of a server and change there, and what is known of them.
use Rattle.std.specs.Prelude.{◌≡◌, ℕ, ◌⊎◌, List, [], ◌∷◌, ◌++◌, map, Some, Ok, Err}
use Rattle.eden_history.specs.Worlds.{Namer, WorldState}
use Rattle.eden_stream.specs.FrameAnswers.{HasReplied}
use Rattle.eden_stream.specs.Stories.{Story}
use Rattle.eden_stream.specs.declared.frame_fault.FrameFault.{FrameFault}
use Rattle.eden_wire.specs.declared.command.Command.{Command}
use Rattle.eden_wire.specs.declared.fault.DecodeFault.{DecodeFault}
use Rattle.eden_query.specs.Answers.{frame_fault_of}
use Rattle.eden_query.specs.Commands.{AllEncode, Reading, after, answers_in}
use Rattle.eden_query.specs.Servers.{DoAll}

-- The commands that the bodies spell took the server from the first state to the last, in order,
-- each once and nothing else. Where it was the present of a world, it is the present of that world
-- after the bodies, and a client can read how each of their changes ends.
pub record DoesBodies {T : Type 0} (name : Namer) (read : Reading) (stands_for : T → WorldState → Type 0) (does : T → Command → T → Type 0)
    (old : T) (bodies : List (List ℕ)) (new : T) : Type 0 where
  pub commands : List Command
  pub spelled : map read bodies ≡ map (λ command. Ok command) commands
  pub done : DoAll does old commands new
  pub stands : (world : WorldState) → stands_for old world → stands_for new (after name read world bodies)
  pub encoded : (world : WorldState) → stands_for old world → AllEncode name read world bodies

-- where the server was the present of a world, the text is what that world answers to the bodies
abbrev pub AnswersRightly : {T : Type 0} → Namer → Reading → (T → WorldState → Type 0) → T → List (List ℕ) → List ℕ → Type 0
AnswersRightly name read stands_for old bodies text = (world : WorldState) → stands_for old world → HasReplied (answers_in name read world) bodies text

-- the body spells no command, and this is its fault
abbrev pub IsUnread : Reading → List ℕ → FrameFault → Type 0
IsUnread read body fault = (cause : DecodeFault) × (read body ≡ Err cause) × (frame_fault_of cause ≡ Some fault)

-- What is known of a server that frames ask and change. A body that spells no command asks nothing.
-- One that was not answered for lack of memory was done once, or not at all.
abbrev pub serving_story : {T : Type 0} → Namer → Reading → (T → WorldState → Type 0) → (T → Command → T → Type 0) → T → T → Story FrameFault
serving_story name read stands_for does old new = record {
  told = λ bodies text. AnswersRightly name read stands_for old bodies text × DoesBodies name read stands_for does old bodies new;
  lost = λ bodies text. AnswersRightly name read stands_for old bodies text × DoesBodies name read stands_for does old bodies new;
  refused = λ bodies body fault. IsUnread read body fault;
  spent = λ bodies body text. AnswersRightly name read stands_for old bodies text
      × (DoesBodies name read stands_for does old bodies new ⊎ DoesBodies name read stands_for does old (bodies ++ body ∷ []) new);
}
