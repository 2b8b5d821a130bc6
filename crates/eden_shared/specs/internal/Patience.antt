-- For which replies a request with patience waits on.
use Rattle.std.specs.Prelude.{◌≡◌, length}
use Rattle.eden_messages.specs.declared.message.Reply.{Reply}
use Rattle.eden_messages.specs.declared.message.Reply.TheVariants.{ChangesAre}

-- the reply is that to a Poll, and names no path and no prefix
abbrev pub NamesNothing : Reply → Type 0
NamesNothing (ChangesAre query target marked prefixes) = (length marked ≡ 0) × (length prefixes ≡ 0)
NamesNothing other = ⊥
