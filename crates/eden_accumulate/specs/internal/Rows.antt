-- A change that makes rows, as all do but an import: its answer and the world after it,
-- without the naming, on which neither depends.
use Rattle.std.specs.Prelude.{◌≡◌}
use Rattle.eden_history.specs.declared.answer.Answer.{Answer}
use Rattle.eden_history.specs.declared.answer.Answer.TheVariants.{Refused}
use Rattle.eden_history.specs.declared.change.Change.{Change}
use Rattle.eden_history.specs.declared.change.ChangeFault.{ChangeFault}
use Rattle.eden_history.specs.Worlds.{WorldState}
use Rattle.eden_history.specs.Outcome.{row_after, row_answer}
use Rattle.eden_accumulate.specs.Mounts.{State, StandsFor}

abbrev pub Answers : State → Change → Answer → Type 0
Answers mount change answer = (world : WorldState) → StandsFor mount world → row_answer world change ≡ answer

abbrev pub Follows : State → Change → State → Type 0
Follows mount change after = (world : WorldState) → StandsFor mount world → StandsFor after (row_after world change)

abbrev pub Refuses : State → Change → ChangeFault → Type 0
Refuses mount change fault = Answers mount change (Refused fault)
