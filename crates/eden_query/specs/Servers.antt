-- What a server promises of its calls, one by one and over several.
use Rattle.std.specs.Prelude.{◌≡◌, ℕ, ◌+◌, List, [], ◌∷◌, Option, Some, None}
use Rattle.eden_history.specs.declared.answer.Answer.{Answer}
use Rattle.eden_history.specs.declared.change.Change.{Change}
use Rattle.eden_messages.specs.declared.message.Request.{Request}
use Rattle.eden_query.specs.declared.raw.Raw.{Raw}
use Rattle.eden_wire.specs.Questions.{request_of}
use Rattle.eden_wire.specs.declared.command.Command.{Command}
use Rattle.eden_wire.specs.declared.command.Command.TheVariants.{Ask, Do}

-- the length of a stored history after one more entry, if one is stored
abbrev pub raised : Option ℕ → Option ℕ
raised None = None
raised (Some count) = Some (count + 1)

-- the caller's command took the server from the first state to the last: what a request asks for was
-- held, or the change was made
abbrev pub Does : {T : Type 0} → (T → ℕ → Request → Raw → T → Type 0) → (T → ℕ → Change → Answer → T → Type 0) → ℕ → T → Command → T → Type 0
Does held_by made_by caller old (Ask asked) new = (raw : Raw) × held_by old caller (request_of asked.question) raw new
Does held_by made_by caller old (Do doing) new = (answer : Answer) × made_by old caller doing.change answer new

-- these commands took it from the first state to the last, in order, each once and nothing else
abbrev pub DoAll : {T : Type 0} → (T → Command → T → Type 0) → T → List Command → T → Type 0
DoAll does old [] new = new ≡ old
DoAll does old (command ∷ rest) new = (mid : _) × does old command mid × DoAll does mid rest new
