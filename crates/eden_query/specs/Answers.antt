-- What a world answers to the body of a frame.
use Rattle.std.specs.Prelude.{◌≡◌, ℕ, List, [], Option, Some, None, Result, Ok, Err}
use Rattle.eden_wire.specs.declared.fault.DecodeFault.{DecodeFault}
use Rattle.eden_wire.specs.declared.fault.DecodeFault.TheVariants as decode
use Rattle.eden_wire.specs.declared.question.Question.{Question}
use Rattle.eden_wire.specs.Questions.{read_question, request_of, wants_of}
use Rattle.eden_wire.specs.Wanted.{wanted_of}
use Rattle.eden_stream.specs.declared.frame_fault.FrameFault.{FrameFault}
use Rattle.eden_stream.specs.declared.frame_fault.FrameFault.TheVariants as frame
use Rattle.eden_messages.specs.declared.message.Reply.{Reply}
use Rattle.eden_messages.specs.declared.message.Request.{Request}
use Rattle.eden_history.specs.Legal.{IsSomeWorld}
use Rattle.eden_history.specs.Spellable.{IsSpellable}
use Rattle.eden_history.specs.Worlds.{Namer, WorldState}
use Rattle.eden_messages.specs.Replies.{reply_of}
use Rattle.eden_stream.specs.Frames as frames

-- the fault of a body under the name that it has as a frame's; `NoMemory` is no fault of a body
abbrev pub frame_fault_of : DecodeFault → Option FrameFault
frame_fault_of decode.CutShort = Some frame.CutShort
frame_fault_of decode.TooLarge = Some frame.TooLarge
frame_fault_of decode.BadTag = Some frame.BadTag
frame_fault_of decode.BadField = Some frame.BadField
frame_fault_of decode.Trailing = Some frame.Trailing
frame_fault_of decode.Version = Some frame.Version
frame_fault_of decode.NoMemory = None

-- a body with a fault gets that fault, and one without would get no text
abbrev pub refused_with : Option FrameFault → Result (List ℕ) FrameFault
refused_with (Some fault) = Err fault
refused_with None = Ok []

abbrev pub answered : Namer → WorldState → Result Question DecodeFault → Result (List ℕ) FrameFault
answered name world (Ok question) = Ok (frames.frame (wanted_of name world (wants_of question) (request_of question)))
answered name world (Err fault) = refused_with (frame_fault_of fault)

-- the frame of what the world says to the body's question, or the first fault of a body that asks
-- nothing
abbrev pub answer_to : Namer → WorldState → List ℕ → Result (List ℕ) FrameFault
answer_to name world body = answered name world (read_question body)

-- some world gives this reply to the request, and all that it replies has a spelling
abbrev pub IsReplyOfWorld : Request → Reply → Type 0
IsReplyOfWorld request reply = (world : WorldState) × IsSomeWorld world × IsSpellable world × (reply ≡ reply_of world request)
