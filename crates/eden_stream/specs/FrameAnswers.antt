-- What is replied to the bodies of frames, where the answer to a body depends on the bodies before
-- it alone: its whole reply, as it is written, or the fault of one that can't be read.
use Rattle.std.specs.Prelude.{◌≡◌, ◌⊎◌, ℕ, All, List, [], ◌∷◌, ◌++◌, Result, Ok, Err}
use Rattle.std.specs.List.{flat_map}
use Rattle.eden_stream.specs.Stories.{Story}
use Rattle.eden_stream.specs.declared.teller.Step.{Step}
use Rattle.eden_stream.specs.declared.teller.Step.TheVariants.{Told, Fault, NoMemory}
use Rattle.eden_stream.specs.declared.frame_fault.FrameFault.{FrameFault}

-- what is answered to a body after the bodies before it
abbrev pub Answering : Type 0
Answering = List (List ℕ) → List ℕ → Result (List ℕ) FrameFault

-- the answers to the bodies, in order
abbrev pub answers_to : Answering → List (List ℕ) → List (Result (List ℕ) FrameFault)
answers_to answers [] = []
answers_to answers (body ∷ bodies) = answers [] body ∷ answers_to (λ before. answers (body ∷ before)) bodies

-- the text of an answer, if it is one
abbrev pub text_of : Result (List ℕ) FrameFault → List ℕ
text_of (Ok text) = text
text_of (Err fault) = []

-- the replies to the bodies, in order
abbrev pub replies : Answering → List (List ℕ) → List ℕ
replies answers bodies = flat_map text_of (answers_to answers bodies)

-- each of the bodies has a reply
abbrev pub HaveReplies : Answering → List (List ℕ) → Type 0
HaveReplies answers bodies = All (λ answer. answer ≡ Ok (text_of answer)) (answers_to answers bodies)

-- Each of the bodies has a reply, and the text is these replies, in order.
pub record HasReplied (answers : Answering) (bodies : List (List ℕ)) (text : List ℕ) : Type 0 where
  pub replied : HaveReplies answers bodies
  pub text_is : replies answers bodies ≡ text

-- What a teller's answer to a body says, where the text grew from old to new.
abbrev pub AnswersBody : (List ℕ → Result (List ℕ) FrameFault) → List ℕ → List ℕ → List ℕ → Step FrameFault → Type 0
AnswersBody answers body old new Told = (printed : List ℕ) × (answers body ≡ Ok printed) × (new ≡ old ++ printed)
AnswersBody answers body old new (Fault fault) = (answers body ≡ Err fault) × (new ≡ old)
AnswersBody answers body old new NoMemory = (extra : List ℕ) × (new ≡ old ++ extra)

-- what can be said of a server that answers so
abbrev pub answers_story : Answering → Story FrameFault
answers_story answers = record {
  told = HasReplied answers;
  lost = HasReplied answers;
  refused = λ bodies body fault. answers bodies body ≡ Err fault;
  spent = λ bodies body text. HasReplied answers bodies text;
}

-- What a story says of a server is what can be said of one that answers so, and that is left so
-- after the bodies that it was given.
pub record RepliesAs (answers : Answering) (left : List (List ℕ) → Type 0) (story : Story FrameFault) : Type 0 where
  pub told : (bodies : List (List ℕ)) (text : List ℕ) → story.told bodies text → HasReplied answers bodies text × left bodies
  pub lost : (bodies : List (List ℕ)) (text : List ℕ) → story.lost bodies text → HasReplied answers bodies text × left bodies
  pub refused : (bodies : List (List ℕ)) (body : List ℕ) (fault : FrameFault) → story.refused bodies body fault → answers bodies body ≡ Err fault
  pub spent : (bodies : List (List ℕ)) (body text : List ℕ) → story.spent bodies body text
      → HasReplied answers bodies text × (left bodies ⊎ left (bodies ++ body ∷ []))
