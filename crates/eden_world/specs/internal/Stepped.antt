-- What a change does to the rows of a world: it adds an event, or nothing.
use Rattle.std.specs.Prelude.{◌≡◌, Option, Some, None}
use Rattle.eden_history.specs.declared.change.Change.{Change}
use Rattle.eden_history.specs.Worlds.{Event, WorldState, commits_of, now}
use Rattle.eden_history.specs.Outcome.{outcome, row_after}
use Rattle.eden_history.specs.Outcome.Outcome.{Next}

abbrev pub Stepped : WorldState → Change → Option Event → Type 0
Stepped world change None = row_after world change ≡ world
Stepped world change (Some event) = (event.change ≡ change) × (outcome (commits_of world) (now world) change ≡ Next event)
