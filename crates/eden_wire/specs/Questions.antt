-- Questions: a request, or one that wants something else than its reply.
use Rattle.std.specs.Prelude.{◌≡◌, ℕ, ◌≤◌, List, ◌∷◌, ◌++◌, length, Option, Some, None, Result, Ok, ◌==◌, if◌then◌else◌}
use Rattle.eden_ids.specs.Texts.{AreBytes}
use Rattle.eden_globs.specs.Filters.{Patterns}
use Rattle.eden_messages.specs.declared.message.Request.{Request}
use Rattle.eden_messages.specs.declared.message.Request.TheVariants.{Basis, Fetch, List as Below}
use Rattle.eden_messages.specs.Spells.{IsRequest, excluded_bytes, filter_bytes, query_bytes, request_bytes, text_bytes}
use Rattle.eden_stream.specs.Frames.{body_limit}
use Rattle.eden_wire.specs.declared.fault.DecodeFault.{DecodeFault}
use Rattle.eden_wire.specs.declared.question.Question.{Question}
use Rattle.eden_wire.specs.declared.question.Question.TheVariants as asks
use Rattle.eden_wire.specs.declared.question.Wants.{Wants}
use Rattle.eden_wire.specs.declared.question.Wants.TheVariants as wants
use Rattle.eden_wire.specs.Formats.{◌>>=◌, byte, ◌▹◌, optional, versioned, tagged}
use Rattle.eden_wire.specs.Messages.{query, path, filter, excluded, excepting, filtered_cases, filtered_of}
use Rattle.eden_wire.specs.Reading.{read_request, read_to_end, tag_at}

-- the request whose reply answers the question: for a Stat it is a Fetch, for attributes a Basis or
-- the List of a prefix, and for a status a Basis
abbrev pub request_of : Question → Request
request_of (asks.Whole request) = request
request_of (asks.Stat q p) = Fetch q p
request_of (asks.Attributes q None f) = Basis q f
request_of (asks.Attributes q (Some prefix) f) = Below q prefix f
request_of (asks.Status q f) = Basis q f

-- what is wanted of that reply
abbrev pub wants_of : Question → Wants
wants_of (asks.Whole request) = wants.Whole
wants_of (asks.Stat q p) = wants.Stat
wants_of (asks.Attributes q prefix f) = wants.Attributes
wants_of (asks.Status q f) = wants.Status

-- The bytes of a body. A Stat has the fields of a Fetch, after the tag 8. Attributes have the tag 9,
-- and a status has the tag 10. What a filter excludes comes before them, as before a request.
abbrev pub question_bytes : Question → List ℕ
question_bytes (asks.Whole request) = request_bytes request
question_bytes (asks.Stat q p) = 2 ∷ 8 ∷ query_bytes q ++ text_bytes p
question_bytes (asks.Attributes q prefix f) = excluded_bytes f.excluded ++ (2 ∷ 9 ∷ query_bytes q ++ ((optional path).spell prefix ++ filter_bytes f.included))
question_bytes (asks.Status q f) = excluded_bytes f.excluded ++ (2 ∷ 10 ∷ query_bytes q ++ filter_bytes f.included)

-- the body encodes the question
pub record SpellsQuestion (body : List ℕ) (question : Question) : Type 0 where
  pub fields : IsRequest (request_of question)
  pub bytes : body ≡ question_bytes question
  pub limit : length body ≤ body_limit

-- a question with a filter that comes after its tag, or else a request, which was read with its tag
abbrev pub read_filtered : ℕ × List ℕ → Result Request DecodeFault → Result Question DecodeFault
read_filtered tag otherwise =
    if tag.0 == 9 then read_to_end (query ▹ optional path ▹ filter) (λ x. asks.Attributes x.0 x.1.0 x.1.1) tag.1 else
    if tag.0 == 10 then read_to_end (query ▹ filter) (λ x. asks.Status x.0 x.1) tag.1 else
    otherwise >>= λ request. Ok (asks.Whole request)

-- a question after what its filter excludes, from its version on
abbrev pub read_excluding : List ℕ → Result Question DecodeFault
read_excluding bytes = do
  tag ← (versioned byte).read bytes
  read_filtered tag (read_to_end (versioned (tagged filtered_cases)) filtered_of bytes)

-- the question with the patterns of another filter excluded
abbrev pub without : Patterns → Question → Question
without e (asks.Whole request) = asks.Whole (excepting e request)
without e (asks.Stat q p) = asks.Stat q p
without e (asks.Attributes q prefix f) = asks.Attributes q prefix (record f { excluded = e.included })
without e (asks.Status q f) = asks.Status q (record f { excluded = e.included })

-- the question that a body encodes, or the first fault
unfoldable pub read_question : List ℕ → Result Question DecodeFault
read_question body = do
  tag ← tag_at body
  if tag.0 == 7 then (do
    e ← excluded.read tag.1
    question ← read_excluding e.1
    Ok (without e.0 question)) else
      if tag.0 == 8 then read_to_end (query ▹ path) (λ x. asks.Stat x.0 x.1) tag.1 else
      read_filtered tag (read_request body)

-- the body of a question is read as that question
abbrev pub QuestionsAreReadBack : Type 0
QuestionsAreReadBack = (body : List ℕ) (question : Question) → SpellsQuestion body question → read_question body ≡ Ok question

-- a body that is read as a question encodes it
abbrev pub ReadQuestionsAreSpelled : Type 0
ReadQuestionsAreSpelled = (body : List ℕ) (question : Question) → AreBytes body → read_question body ≡ Ok question → SpellsQuestion body question
