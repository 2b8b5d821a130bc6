-- What comes over a connection, and where a client is then.
use Rattle.std.specs.Prelude.{◌≡◌, ◌⊎◌, ℕ, List, [], ◌∷◌, Option, None, Some}
use Rattle.eden_messages.specs.declared.message.Reply.{Reply}
use Rattle.eden_messages.specs.Mirrors.{MirrorState}
use Rattle.eden_mirror.specs.Counting.{after}
use Rattle.eden_connect.specs.Connections.{Along, Client, Event, Receives, replies_of, tries_of}
use Rattle.eden_connect.specs.Rounds.{HasEnded}

-- the frames of these replies come in, one after another
abbrev pub ReceivesAll : Option (List ℕ) → Option (List ℕ) → List Reply → Type 0
ReceivesAll got got' [] = got' ≡ got
ReceivesAll got got' (reply ∷ replies) = (mid : Option (List ℕ)) × Receives got mid reply × ReceivesAll mid got' replies

-- Some replies came over a connection to the mirror.
pub record Hears (got got' : Option (List ℕ)) (m m' : MirrorState) : Type 0 where
  pub replies : List Reply
  pub came : ReceivesAll got got' replies
  pub taken : m' ≡ after m replies

-- They have ended the round.
pub record HearsAll (got got' : Option (List ℕ)) (m m' : MirrorState) : Type 0 where
  pub heard : Hears got got' m m'
  pub ended : HasEnded m heard.replies

-- Some came, and then the connection was lost.
abbrev pub HearsSome : Option (List ℕ) → MirrorState → MirrorState → Type 0
HearsSome got m m' = (got' : Option (List ℕ)) × Hears got got' m m'

-- The round is over, and this is left of the connection that is kept; or the connection was lost.
abbrev pub Talks : Option (List ℕ) → Option (Option (List ℕ)) → MirrorState → MirrorState → Type 0
Talks got None m m' = HearsSome got m m'
Talks got (Some got') m m' = HearsAll got got' m m'

-- That is so of the connection that is there; without one nothing comes.
abbrev pub Resumes : Option (Option (List ℕ)) → Option (Option (List ℕ)) → MirrorState → MirrorState → Type 0
Resumes None kept m m' = (kept ≡ None) × (m' ≡ m)
Resumes (Some got) kept m m' = Talks got kept m m'

-- A client has got here after asking for this many connections. It has a connection only if the
-- round has ended.
pub record Leads {D : Type 0} (dials : D → Option (Option (List ℕ)) → D → Type 0) (tries : ℕ) (old new : Client D) (m m' : MirrorState) : Type 0 where
  pub events : List Event
  pub along : Along dials events old new
  pub count : tries_of events ≡ tries
  pub taken : m' ≡ after m (replies_of events)
  pub ended : (new.left ≡ None) ⊎ HasEnded m (replies_of events)
