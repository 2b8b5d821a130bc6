-- At which position a request is answered, or why it is refused: what is known of its reply once it
-- is held.
use Rattle.std.specs.Prelude.{Result, Ok, Err}
use Rattle.eden_messages.specs.declared.message.Cause.{Cause}
use Rattle.eden_history.specs.declared.position.Position.{Position}
use Rattle.eden_query.specs.declared.raw.Raw.{Raw}
use Rattle.eden_query.specs.declared.raw.Raw.TheVariants as raw

-- as what was held says
abbrev pub settled : Raw → Result Position Cause
settled (raw.Ranged query range) = Ok range.to
settled (raw.Based query snapshot) = Ok snapshot.position
settled (raw.Held query position path content) = Ok position
settled (raw.Listed query snapshot prefix) = Ok snapshot.position
settled (raw.Refused query cause) = Err cause
