-- What is asked with patience: a question, and for how long its reply may wait.
use Rattle.std.specs.Prelude.{◌≡◌, ◌⊎◌, ℕ, ◌<◌, ◌≤◌, ◌^◌, List, ◌∷◌, ◌++◌, length, Result, Ok, ◌==◌, if◌then◌else◌}
use Rattle.std.specs.Int.{w32, to_be_bytes}
use Rattle.eden_ids.specs.Texts.{AreBytes}
use Rattle.eden_messages.specs.Spells.{IsRequest}
use Rattle.eden_stream.specs.Frames.{body_limit}
use Rattle.eden_wire.specs.declared.asked.Asked.{Asked}
use Rattle.eden_wire.specs.declared.fault.DecodeFault.{DecodeFault}
use Rattle.eden_wire.specs.Formats.{◌>>=◌, number}
use Rattle.eden_wire.specs.Reading.{tag_at}
use Rattle.eden_wire.specs.Questions.{question_bytes, read_question, request_of}

-- what comes before a question: the version, the tag 5, and four bytes of milliseconds
abbrev pub patience_bytes : ℕ → List ℕ
patience_bytes patience = 2 ∷ 5 ∷ to_be_bytes w32 patience

-- the bytes of a body, which is the question's own if there is no patience
abbrev pub asked_bytes : Asked → List ℕ
asked_bytes asked = if asked.patience == 0 then question_bytes asked.question else patience_bytes asked.patience ++ question_bytes asked.question

-- The body encodes what is asked: the question alone, which has no patience, or the patience, which
-- may be 0, and the question's whole body.
pub record SpellsAsked (body : List ℕ) (asked : Asked) : Type 0 where
  pub fields : IsRequest (request_of asked.question)
  pub patience : asked.patience < 2 ^ 32
  pub bytes : ((asked.patience ≡ 0) × (body ≡ question_bytes asked.question)) ⊎ (body ≡ patience_bytes asked.patience ++ question_bytes asked.question)
  pub limit : length body ≤ body_limit

-- What a body asks, or the first fault. After a patience comes the body of a question, and no other
-- patience.
unfoldable pub read_asked : List ℕ → Result Asked DecodeFault
read_asked body = do
  tag ← tag_at body
  if tag.0 == 5 then (do
    patience ← (number w32).read tag.1
    question ← read_question patience.1
    Ok (record { patience = patience.0; question = question }))
      else (do
        question ← read_question body
        Ok (record { patience = 0; question = question }))

-- the body of what is asked is read as that
abbrev pub AskedAreReadBack : Type 0
AskedAreReadBack = (body : List ℕ) (asked : Asked) → SpellsAsked body asked → read_asked body ≡ Ok asked

-- a body that is read as what is asked encodes it
abbrev pub ReadAskedAreSpelled : Type 0
ReadAskedAreSpelled = (body : List ℕ) (asked : Asked) → AreBytes body → read_asked body ≡ Ok asked → SpellsAsked body asked
