-- What goes over a connection, and what comes of it.
use Rattle.std.specs.Prelude.{◌≡◌, ◌<◌, ℕ, ◌⊎◌, Bool, true, false, List, [], ◌++◌, length, map, Option}
use Rattle.std.specs.List.{flat_map}
use Rattle.std.specs.Io.KnownBytes.{Appends}
use Rattle.eden_stream.specs.Frames.{frame}
use Rattle.eden_messages.specs.declared.message.Request.{Request}
use Rattle.eden_messages.specs.declared.message.Reply.{Reply}
use Rattle.eden_messages.specs.Mirrors.{MirrorState, is_idle, outstanding_of}
use Rattle.eden_messages.specs.Spells.{request_bytes}
use Rattle.eden_mirror.specs.Counting.{after}
use Rattle.eden_connect.specs.Rounds.{any_counts}
use Rattle.eden_connect.specs.internal.Talks.{ReceivesAll}

-- ---- requests

abbrev pub request_frame : Request → List ℕ
request_frame request = frame (request_bytes request)

abbrev pub frame_size : Request → ℕ
frame_size request = length (request_frame request)

-- The first of the requests are noted in the window, some are not; it takes one at least where it
-- was empty.
pub record IsParted (window window' : List ℕ) (requests first rest : List Request) : Type 0 where
  pub parted : requests ≡ first ++ rest
  pub noted : window' ≡ window ++ map frame_size first
  pub some : window ≡ [] → (rest ≡ []) ⊎ (0 < length first)

-- the frames of the first of the requests come after a text
pub record Gathers (window window' : List ℕ) (requests rest : List Request) (text text' : List ℕ) : Type 0 where
  pub first : List Request
  pub parted : IsParted window window' requests first rest
  pub framed : text' ≡ text ++ flat_map request_frame first

-- they went out
pub record Sends (window window' : List ℕ) (requests rest : List Request) (sent sent' : Option (List ℕ)) : Type 0 where
  pub first : List Request
  pub parted : IsParted window window' requests first rest
  pub went : Appends sent sent' (flat_map request_frame first)

-- ---- replies

-- The frames of replies came in, and the mirror took the replies in their order. Whether one of
-- them counted is returned.
pub record Takes (got got' : Option (List ℕ)) (m m' : MirrorState) (replies : List Reply) (counted : Bool) : Type 0 where
  pub came : ReceivesAll got got' replies
  pub taken : m' ≡ after m replies
  pub told : counted ≡ any_counts m replies

-- All requests went out, and a reply came in for each.
pub record Exchanges (requests : List Request) (sent sent' got got' : Option (List ℕ)) (m m' : MirrorState) (counted : Bool) : Type 0 where
  pub replies : List Reply
  pub each : length replies ≡ length requests
  pub went : Appends sent sent' (flat_map request_frame requests)
  pub came : Takes got got' m m' replies counted

-- ---- the end of a round

-- In the end all that was outstanding was asked, and nothing counted that came.
pub record AsksInVain (sent' got' : Option (List ℕ)) (m' : MirrorState) : Type 0 where
  pub sent : Option (List ℕ)
  pub got : Option (List ℕ)
  pub before : MirrorState
  pub last : Exchanges (outstanding_of before) sent sent' got got' before m' false

-- the round has ended, or all was asked in vain
abbrev pub IsOver : Option (List ℕ) → Option (List ℕ) → MirrorState → Type 0
IsOver sent got m = (is_idle m.round ≡ true) ⊎ AsksInVain sent got m
