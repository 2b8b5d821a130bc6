-- Why a change of a mount is refused, in each world of which it is the present.
use Rattle.std.specs.Prelude.{◌≡◌, ℕ, ◌-◌, ◌^◌, nat_lt, if◌then◌else◌, Option, Some, None}
use Rattle.eden_history.specs.declared.change.Change.{Change}
use Rattle.eden_history.specs.declared.change.ChangeFault.{ChangeFault}
use Rattle.eden_history.specs.declared.change.ChangeFault.TheVariants.{SequenceExhausted}
use Rattle.eden_history.specs.Worlds.{WorldState, commits_of, now}
use Rattle.eden_history.specs.Outcome.{refusal}
use Rattle.eden_accumulate.specs.Mounts.{StandsFor, State}

-- why a change is refused, or that it is not, in each world of which the mount is the
-- present
abbrev pub IsRefusal : State → Change → Option ChangeFault → Type 0
IsRefusal mount change fault = (world : WorldState) → StandsFor mount world → fault ≡ refusal (commits_of world) (now world) change

-- no number is left for one more event
abbrev pub number_fault : ℕ → Option ChangeFault
number_fault head = if nat_lt head (2 ^ 64 - 1) then None else Some SequenceExhausted
