-- What comes over connections that are made one after another.
use Rattle.std.specs.Prelude.{◌≡◌, ◌<◌, ◌≤◌, ℕ, ◌+◌, List, [], ◌∷◌, Option, None, Some}
use Rattle.std.specs.Io.KnownBytes.{Consumes}
use Rattle.eden_stream.specs.Frames.{frame}
use Rattle.eden_messages.specs.declared.message.Reply.{Reply}
use Rattle.eden_messages.specs.Mirrors.{MirrorState}
use Rattle.eden_messages.specs.Spells.{SpellsReply}
use Rattle.eden_mirror.specs.Counting.{after}
use Rattle.eden_connect.specs.Rounds.{Follows}

-- Where a client is: what makes its connections, and what the reader of its connection has left, if
-- it has a connection. The bytes of a reader are None if they aren't known.
pub record Client (D : Type 0) : Type 0 where
  pub dial : D
  pub left : Option (Option (List ℕ))

-- ---- what happens to a client

pub data Event : Type 0 where
  -- a connection is asked for: one is made, whose reader has these bytes, or none
  Dials : (made : Option (Option (List ℕ))) → Event
  -- a reply comes over the connection
  Comes : (reply : Reply) → Event
  -- the connection is lost
  Loses : Event

-- the reader gives the frame of a reply
abbrev pub Receives : Option (List ℕ) → Option (List ℕ) → Reply → Type 0
Receives got got' reply = (body : List ℕ) × SpellsReply body reply × Consumes got got' (frame body)

-- so does that of a connection
abbrev pub Reads : Option (Option (List ℕ)) → Option (Option (List ℕ)) → Reply → Type 0
Reads None left reply = ⊥
Reads (Some got) None reply = ⊥
Reads (Some got) (Some got') reply = Receives got got' reply

-- by what may come of asking for a connection
abbrev pub Happens : {D : Type 0} → (D → Option (Option (List ℕ)) → D → Type 0) → Event → Client D → Client D → Type 0
Happens dials (Dials made) old new = dials old.dial made new.dial × (new.left ≡ made)
Happens dials (Comes reply) old new = (new.dial ≡ old.dial) × Reads old.left new.left reply
Happens dials Loses old new = (new.dial ≡ old.dial) × (new.left ≡ None)

-- one event after another
abbrev pub Along : {D : Type 0} → (D → Option (Option (List ℕ)) → D → Type 0) → List Event → Client D → Client D → Type 0
Along dials [] old new = new ≡ old
Along {D} dials (event ∷ events) old new = (mid : Client D) × Happens dials event old mid × Along dials events mid new

-- the replies that come
abbrev pub replies_of : List Event → List Reply
replies_of [] = []
replies_of (Dials made ∷ events) = replies_of events
replies_of (Comes reply ∷ events) = reply ∷ replies_of events
replies_of (Loses ∷ events) = replies_of events

-- how often a connection is asked for
abbrev pub tries_of : List Event → ℕ
tries_of [] = 0
tries_of (Dials made ∷ events) = tries_of events + 1
tries_of (Comes reply ∷ events) = tries_of events
tries_of (Loses ∷ events) = tries_of events

-- ---- rounds

-- These replies came in a round, for which at most 16 connections were asked for.
pub record Brings {D : Type 0} (dials : D → Option (Option (List ℕ)) → D → Type 0) (old new : Client D) (replies : List Reply) : Type 0 where
  pub events : List Event
  pub along : Along dials events old new
  pub tries : tries_of events ≤ 16
  pub brought : replies ≡ replies_of events

-- these came, round by round
abbrev pub BringsAll : {D : Type 0} → (D → Option (Option (List ℕ)) → D → Type 0) → List (List Reply) → Client D → Client D → Type 0
BringsAll dials [] old new = new ≡ old
BringsAll {D} dials (replies ∷ rounds) old new = (mid : Client D) × Brings dials old mid replies × BringsAll dials rounds mid new

-- The mirror had this number of rounds, and its replies came over the connections of a client.
pub record FollowsOver {D : Type 0} (dials : D → Option (Option (List ℕ)) → D → Type 0) (rounds : ℕ) (old new : Client D) (m m' : MirrorState) : Type 0 where
  pub followed : Follows m rounds m'
  pub came : BringsAll dials followed.heard old new

-- a client without a connection
abbrev pub unconnected : {D : Type 0} → D → Client D
unconnected dial = record { dial = dial; left = None }

-- so it is of a client that began without a connection
abbrev pub FollowsFrom : {D : Type 0} → (D → Option (Option (List ℕ)) → D → Type 0) → ℕ → D → D → MirrorState → MirrorState → Type 0
FollowsFrom dials rounds before after m m' =
    (left : Option (Option (List ℕ))) × FollowsOver dials rounds (unconnected before) (record { dial = after; left = left }) m m'

-- After fewer rounds one more was begun, and 16 connections were asked for; in the end there was
-- none.
pub record IsCutOff {D : Type 0} (dials : D → Option (Option (List ℕ)) → D → Type 0) (rounds : ℕ) (old new : Client D) (m : MirrorState) : Type 0 where
  pub done : ℕ
  pub fewer : done < rounds
  pub before : Client D
  pub mirror : MirrorState
  pub past : FollowsOver dials done old before m mirror
  pub events : List Event
  pub along : Along dials events before new
  pub tries : tries_of events ≡ 16
  pub lost : new.left ≡ None
