-- What a world answers to the bodies of frames that may ask for changes, each in the world that the
-- bodies before it leave.
use Rattle.std.specs.Prelude.{Bool, true, false, ℕ, List, [], ◌∷◌, Result, Ok, Err}
use Rattle.eden_history.specs.Outcome.{answer_of, world_after}
use Rattle.eden_history.specs.Worlds.{Namer, WorldState}
use Rattle.eden_stream.specs.FrameAnswers.{Answering}
use Rattle.eden_stream.specs.Frames as frames
use Rattle.eden_stream.specs.declared.frame_fault.FrameFault.{FrameFault}
use Rattle.eden_wire.specs.Commands.{SpellsDone, done_bytes, done_of, read_command}
use Rattle.eden_wire.specs.Questions.{read_question}
use Rattle.eden_wire.specs.declared.command.Command.{Command}
use Rattle.eden_wire.specs.declared.command.Command.TheVariants.{Ask, Do}
use Rattle.eden_wire.specs.declared.command.Doing.{Doing}
use Rattle.eden_wire.specs.declared.done.Done.{Done}
use Rattle.eden_wire.specs.declared.fault.DecodeFault.{DecodeFault}
use Rattle.eden_wire.specs.declared.question.Question.{Question}
use Rattle.eden_query.specs.Answers.{answered}

-- how a service reads a body
abbrev pub Reading : Type 0
Reading = List ℕ → Result Command DecodeFault

abbrev pub as_asked : Result Question DecodeFault → Result Command DecodeFault
as_asked (Ok question) = Ok (Ask (record { patience = 0; question = question }))
as_asked (Err fault) = Err fault

-- as a question alone, by a service that makes no changes
abbrev pub read_asking : Reading
read_asking body = as_asked (read_question body)

-- by a service that makes changes, or by one that makes none
abbrev pub reading : Bool → Reading
reading true body = read_command body
reading false body = read_asking body

-- how a change ends in a world
abbrev pub ended : Namer → WorldState → Doing → Done
ended name world doing = done_of (answer_of name world doing.change)

-- What a world answers to a body that is read so: the frame of what a question wants of its reply,
-- the frame of how a change ends in it, or the first fault. A reply waits for nothing.
abbrev pub answer_by : Namer → WorldState → Result Command DecodeFault → Result (List ℕ) FrameFault
answer_by name world (Ok (Ask asked)) = answered name world (Ok asked.question)
answer_by name world (Ok (Do doing)) = Ok (frames.frame (done_bytes doing.query (ended name world doing)))
answer_by name world (Err fault) = answered name world (Err fault)

-- the world after it: the one after a change, else the same
abbrev pub world_past : Namer → WorldState → Result Command DecodeFault → WorldState
world_past name world (Ok (Ask asked)) = world
world_past name world (Ok (Do doing)) = world_after name world doing.change
world_past name world (Err fault) = world

-- the world after bodies
abbrev pub after : Namer → Reading → WorldState → List (List ℕ) → WorldState
after name read world [] = world
after name read world (body ∷ bodies) = after name read (world_past name world (read body)) bodies

-- what is answered to a body in the world that the bodies before it leave
abbrev pub answers_in : Namer → Reading → WorldState → Answering
answers_in name read world = λ before body. answer_by name (after name read world before) (read body)

-- if a body that is read so asks for a change, the body that answers it in the world encodes how the
-- change ends
abbrev pub Encodes : Namer → WorldState → Result Command DecodeFault → Type 0
Encodes name world (Ok (Ask asked)) = Unit {0}
Encodes name world (Ok (Do doing)) = SpellsDone (done_bytes doing.query (ended name world doing)) doing.query (ended name world doing)
Encodes name world (Err fault) = Unit {0}

-- so does each of these bodies, in the world that the bodies before it leave
abbrev pub AllEncode : Namer → Reading → WorldState → List (List ℕ) → Type 0
AllEncode name read world [] = Unit {0}
AllEncode name read world (body ∷ bodies) = Encodes name world (read body) × AllEncode name read (world_past name world (read body)) bodies
