-- A mirror that is followed by rounds, and what is printed of it.
use Rattle.std.specs.Prelude.{◌≡◌, ℕ, ◌⊎◌, Bool, true, false, ◌||◌, List, [], ◌∷◌, ◌++◌, length, Option}
use Rattle.std.specs.Io.KnownBytes.{Appends}
use Rattle.eden_history.specs.declared.position.Position.{Position}
use Rattle.eden_messages.specs.declared.message.Reply.{Reply}
use Rattle.eden_messages.specs.declared.outcome.Outcome.{Outcome}
use Rattle.eden_messages.specs.declared.outcome.Outcome.TheVariants.{Taken, Placed, Unplaced, Ended, Ignored}
use Rattle.eden_messages.specs.Mirrors.{MirrorState, begun, delivered, is_idle, outstanding_of}
use Rattle.eden_mirror.specs.Counting.{after}
use Rattle.eden_connect.specs.Reports.{AppendsFront, report_text}

-- ---- a round ends

-- the reply was awaited
abbrev pub counts : Outcome → Bool
counts Taken = true
counts Placed = true
counts Unplaced = true
counts Ended = true
counts Ignored = false

-- one of the replies, which come in this order, was awaited
abbrev pub any_counts : MirrorState → List Reply → Bool
any_counts m [] = false
any_counts m (reply ∷ replies) = counts (delivered m reply).1 || any_counts (delivered m reply).0 replies

-- In the end a reply came for each outstanding request, and none was awaited.
pub record IsGivenUp (m : MirrorState) (replies : List Reply) : Type 0 where
  pub past : List Reply
  pub last : List Reply
  pub parted : replies ≡ past ++ last
  pub each : length last ≡ length (outstanding_of (after m past))
  pub none : any_counts (after m past) last ≡ false

-- with these replies the round is over, or given up
abbrev pub HasEnded : MirrorState → List Reply → Type 0
HasEnded m replies = (is_idle (after m replies).round ≡ true) ⊎ IsGivenUp m replies

-- ---- rounds

-- the mirror after rounds, each of which is begun and brings it these replies
abbrev pub followed : MirrorState → List (List Reply) → MirrorState
followed m [] = m
followed m (replies ∷ rounds) = followed (after (begun m) replies) rounds

-- each round ends with its replies
abbrev pub AllEnd : MirrorState → List (List Reply) → Type 0
AllEnd m [] = Unit {0}
AllEnd m (replies ∷ rounds) = HasEnded (begun m) replies × AllEnd (after (begun m) replies) rounds

-- It had this number of rounds, and each has ended.
pub record Follows (m : MirrorState) (rounds : ℕ) (m' : MirrorState) : Type 0 where
  pub heard : List (List Reply)
  pub count : length heard ≡ rounds
  pub ended : AllEnd m heard
  pub taken : m' ≡ followed m heard

-- ---- what is printed

-- The text of such a mirror is printed, and its place is such a one.
pub record Tells (IsMirror : MirrorState → Type 0) (IsSuch : Option Position → Type 0) (old new : Option (List ℕ)) : Type 0 where
  pub mirror : MirrorState
  pub followed : IsMirror mirror
  pub place : IsSuch mirror.place
  pub text : Appends old new (report_text mirror)

-- The first bytes of that text are printed.
pub record TellsFront (IsMirror : MirrorState → Type 0) (old new : Option (List ℕ)) : Type 0 where
  pub mirror : MirrorState
  pub followed : IsMirror mirror
  pub text : AppendsFront old new (report_text mirror)
