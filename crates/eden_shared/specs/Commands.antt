-- What the frames of a stream ask of a lock of which nothing is logged and change there, and what is
-- written of it.
--
-- A caller that may change the server has a pass, which counts the changes. One that may not has
-- none.
use Rattle.std.specs.Prelude.{◌≡◌, ◌⊎◌, ℕ, ◌+◌, ◌≤◌, List, [], ◌∷◌, Option, Some, None, Ok}
use Rattle.std.specs.List.{AllZip, flat_map}
use Rattle.eden_history.specs.declared.answer.Answer.{Answer}
use Rattle.eden_history.specs.declared.change.Change.{Change}
use Rattle.eden_messages.specs.declared.message.Reply.{Reply}
use Rattle.eden_messages.specs.declared.message.Request.{Request}
use Rattle.eden_messages.specs.Spells.{SpellsReply, reply_bytes}
use Rattle.eden_query.specs.Servings.{IsUnread}
use Rattle.eden_stream.specs.Frames.{frame}
use Rattle.eden_stream.specs.Stories.{Story}
use Rattle.eden_stream.specs.declared.frame_fault.FrameFault.{FrameFault}
use Rattle.eden_wire.specs.declared.command.Command.{Command}
use Rattle.eden_wire.specs.declared.command.Command.TheVariants.{Ask, Do}
use Rattle.eden_wire.specs.declared.command.Doing.{Doing}
use Rattle.eden_wire.specs.declared.done.Done.{Done}
use Rattle.eden_wire.specs.declared.done.Done.TheVariants.{NotWritable}
use Rattle.eden_wire.specs.declared.question.Question.{Question}
use Rattle.eden_wire.specs.Questions.{request_of, wants_of}
use Rattle.eden_wire.specs.declared.question.Wants.{Wants}
use Rattle.eden_wire.specs.Commands.{SpellsDone, done_of, read_command}
use Rattle.eden_shared.specs.Passes.{PassView}

-- the body asks for this
abbrev pub Reads : List ℕ → Command → Type 0
Reads body command = read_command body ≡ Ok command

-- how many changes a command asks for
abbrev pub changes_of : Command → ℕ
changes_of (Ask asked) = 0
changes_of (Do doing) = 1

abbrev pub changes_in : List Command → ℕ
changes_in [] = 0
changes_in (command ∷ commands) = changes_of command + changes_in commands

-- the pass, if there is one, when it counts this many changes more
abbrev pub counting : ℕ → Option PassView → Option PassView
counting more None = None
counting more (Some pass) = Some (record pass { amount = pass.amount + more })

-- What is said is what the question wants in place of the reply to its request, or that reply.
pub record SaysReply (Told : ℕ → Request → Wants → Reply → List ℕ → Type 0) (question : Question) (body : List ℕ) : Type 0 where
  pub number : ℕ
  pub reply : Reply
  pub told : Told number (request_of question) (wants_of question) reply body
  pub spelled : SpellsReply (reply_bytes reply) reply

-- The change was made and got this answer. The changes before it are at least those that the pass
-- counts.
pub record Makes (Made : ℕ → Change → Answer → Type 0) (pass : PassView) (change : Change) (answer : Answer) : Type 0 where
  pub number : ℕ
  pub made : Made number change answer
  pub later : pass.amount ≤ number

-- How a change ends. Without a pass it is not made.
abbrev pub EndsSo : (ℕ → Change → Answer → Type 0) → Option PassView → Change → Done → Type 0
EndsSo Made None change done = done ≡ NotWritable
EndsSo Made (Some pass) change done = (answer : Answer) × Makes Made pass change answer × (done ≡ done_of answer)

-- what is said to a command: the reply to a request, or a body that spells how a change ended
abbrev pub Says : (Question → List ℕ → Type 0) → (ℕ → Change → Answer → Type 0) → Option PassView → Command → List ℕ → Type 0
Says Tells Made writing (Ask asked) body = Tells asked.question body
Says Tells Made writing (Do doing) body = (done : Done) × EndsSo Made writing doing.change done × SpellsDone body doing.query done

-- This is said to the commands, one after another. The pass counts each change before the next
-- command.
abbrev pub SaysAll : (Question → List ℕ → Type 0) → (ℕ → Change → Answer → Type 0) → Option PassView → List Command → List (List ℕ) → Type 0
SaysAll Tells Made writing [] [] = Unit {0}
SaysAll Tells Made writing [] (body ∷ more) = ⊥
SaysAll Tells Made writing (command ∷ commands) [] = ⊥
SaysAll Tells Made writing (command ∷ commands) (body ∷ more) =
    Says Tells Made writing command body × SaysAll Tells Made (counting (changes_of command) writing) commands more

-- The text is the frames of what was said to the bodies, one to each, in order. The pass counts one
-- change more for each that they ask for, and no other.
pub record Answers (Tells : Question → List ℕ → Type 0) (Made : ℕ → Change → Answer → Type 0) (before now : Option PassView)
    (bodies : List (List ℕ)) (text : List ℕ) : Type 0 where
  pub commands : List Command
  pub said : List (List ℕ)
  pub read : AllZip Reads bodies commands
  pub says : SaysAll Tells Made before commands said
  pub text_is : text ≡ flat_map frame said
  pub counted : now ≡ counting (changes_in commands) before

-- The body asks for a change, which was made and counted, and of which nothing is said.
pub record MakesUnsaid (Made : ℕ → Change → Answer → Type 0) (body : List ℕ) (was now : Option PassView) : Type 0 where
  pub doing : Doing
  pub pass : PassView
  pub answer : Answer
  pub read : Reads body (Do doing)
  pub had : was ≡ Some pass
  pub makes : Makes Made pass doing.change answer
  pub counted : now ≡ counting 1 was

-- What frames say of a server of which nothing is logged, and of the pass by which they change it.
-- A body that can't be read gets no answer. If there was no memory to answer a change, it was made
-- once, or not at all.
abbrev pub unlogged_story : (Question → List ℕ → Type 0) → (ℕ → Change → Answer → Type 0) → Option PassView → Option PassView → Story FrameFault
unlogged_story Tells Made before now = record {
  told = Answers Tells Made before now;
  lost = Answers Tells Made before now;
  refused = λ bodies body fault. IsUnread read_command body fault;
  spent = λ bodies body text. Answers Tells Made before now bodies text
      ⊎ ((was : Option PassView) × Answers Tells Made before was bodies text × MakesUnsaid Made body was now);
}
