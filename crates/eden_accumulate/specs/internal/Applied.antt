-- The result of a call that makes a change, as an answer.
use Rattle.std.specs.Prelude.{◌≡◌, Option, Some, None, Result, Ok, Err}
use Rattle.eden_history.specs.declared.answer.Answer.{Answer}
use Rattle.eden_history.specs.declared.answer.Answer.TheVariants.{Refused}
use Rattle.eden_history.specs.declared.change.Change.{Change}
use Rattle.eden_history.specs.declared.change.ChangeFault.{ChangeFault}
use Rattle.eden_history.specs.declared.change.ChangeFault.TheVariants.{NoMemory}
use Rattle.eden_history.specs.Worlds.{Namer}
use Rattle.eden_accumulate.specs.Mounts.{Answers, Follows, State}

-- a refusal is an answer, but `NoMemory` is not
abbrev pub refused : ChangeFault → Option Answer
refused NoMemory = None
refused fault = Some (Refused fault)

abbrev pub told_as : {A : Type 0} → (A → Answer) → Result A ChangeFault → Option Answer
told_as told (Ok made) = Some (told made)
told_as told (Err fault) = refused fault

-- an answer is that of each world of which the mount was the present, and the mount
-- follows; without an answer it does not change
abbrev pub Applies : Namer → State → Change → Option Answer → State → Type 0
Applies name old change (Some answer) new = Answers name old change answer × Follows name old change new
Applies name old change None new = new ≡ old
