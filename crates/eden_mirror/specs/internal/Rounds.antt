-- What the code keeps of a round: its question and its request follow from the rest of the mirror.
use Rattle.std.specs.Prelude.{Option}
use Rattle.eden_globs.specs.Filters.{Patterns}
use Rattle.eden_history.specs.declared.position.Position.{Position}
use Rattle.eden_messages.specs.declared.message.Query.{Query}
use Rattle.eden_messages.specs.declared.outcome.Outcome.{Outcome}
use Rattle.eden_messages.specs.declared.outcome.Outcome.TheVariants.{Taken}
use Rattle.eden_messages.specs.Mirrors as defined
use Rattle.eden_messages.specs.Mirrors.{MirrorState, gathers, list_request}
use Rattle.eden_mirror.specs.declared.mirror.Round.{Round}
use Rattle.eden_mirror.specs.declared.mirror.Round.TheVariants.{Idle, Asked, Gathering}

-- the round of a mirror with this last question, place and filter
abbrev pub round_of : Query → Option Position → Patterns → Round → defined.Round
round_of query place patterns Idle = defined.Round.Idle
round_of query place patterns Asked = defined.Round.Asked (list_request query place patterns)
round_of query place patterns (Gathering target awaited prefixes) = defined.Round.Gathering query target awaited prefixes

-- a mirror whose round awaits nothing any more is placed
abbrev pub settled_in : MirrorState → defined.Round → MirrorState × Outcome
settled_in m (defined.Round.Gathering query target awaited prefixes) = gathers m query target awaited prefixes
settled_in m round = (m, Taken)
