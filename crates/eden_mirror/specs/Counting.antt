-- How a round counts what it waits for, up to the reply that places the mirror.
use Rattle.std.specs.Prelude.{◌≡◌, ℕ, ◌+◌, ◌==◌, Bool, true, false, ◌&&◌, ◌||◌, if◌then◌else◌, List, [], ◌∷◌, ◌++◌, length, drop}
use Rattle.eden_messages.specs.declared.message.Reply.{Reply}
use Rattle.eden_messages.specs.declared.message.Reply.TheVariants.{ContentIs, ListIs, Refused}
use Rattle.eden_messages.specs.declared.outcome.Outcome.{Outcome}
use Rattle.eden_messages.specs.declared.outcome.Outcome.TheVariants.{Taken, Placed, Ended, Ignored}
use Rattle.eden_messages.specs.Mirrors.{MirrorState, Round, counts, delivered, distinct, ends_round, same_query}
use Rattle.eden_messages.specs.Mirrors.Round.{Idle, Asked, Gathering}

abbrev pub is_gathering : Round → Bool
is_gathering Idle = false
is_gathering (Asked request) = false
is_gathering (Gathering query target awaited prefixes) = true

-- the paths whose contents are awaited
abbrev pub awaited_in : Round → List (List ℕ)
awaited_in Idle = []
awaited_in (Asked request) = []
awaited_in (Gathering query target awaited prefixes) = awaited

-- the directories whose lists are awaited
abbrev pub prefixes_in : Round → List (List ℕ)
prefixes_in Idle = []
prefixes_in (Asked request) = []
prefixes_in (Gathering query target awaited prefixes) = prefixes

-- the number of both together
abbrev pub left_in : Round → ℕ
left_in round = length (awaited_in round) + length (prefixes_in round)

-- the reply is a content that counts in the round
abbrev pub content_counts : Round → Reply → Bool
content_counts (Gathering asked target awaited prefixes) (ContentIs query position path content) = counts asked target awaited query position path
content_counts round reply = false

-- the reply is a list of a directory, and counts in the round
abbrev pub list_counts : Round → Reply → Bool
list_counts (Gathering asked target awaited prefixes) (ListIs query position prefix paths) = counts asked target prefixes query position prefix
list_counts round reply = false

abbrev pub counts_in : Round → Reply → Bool
counts_in round reply = content_counts round reply || list_counts round reply

-- the reply says that a list would be too long, and one is awaited
abbrev pub ends_in : Round → Reply → Bool
ends_in (Gathering asked target awaited prefixes) (Refused query cause) = same_query query asked && ends_round prefixes cause
ends_in round reply = false

abbrev pub paths_listed : Reply → List (List ℕ)
paths_listed (ListIs query position prefix paths) = paths
paths_listed reply = []

-- the number of paths that a list that counts adds to those that are awaited
abbrev pub added_in : Round → Reply → ℕ
added_in round reply =
    if list_counts round reply then length (drop (length (awaited_in round)) (distinct (awaited_in round ++ paths_listed reply))) else 0

-- the mirror after these replies, in their order
abbrev pub after : MirrorState → List Reply → MirrorState
after m [] = m
after m (reply ∷ replies) = after (delivered m reply).0 replies

-- the number of them that count, each in the round into which it comes
abbrev pub counted : MirrorState → List Reply → ℕ
counted m [] = 0
counted m (reply ∷ replies) = (if counts_in m.round reply then 1 else 0) + counted (delivered m reply).0 replies

-- the number of paths that they add
abbrev pub added : MirrorState → List Reply → ℕ
added m [] = 0
added m (reply ∷ replies) = added_in m.round reply + added (delivered m reply).0 replies

-- the outcome if this many are left
abbrev pub outcome_where : ℕ → Outcome
outcome_where left = if left == 0 then Placed else Taken

-- the outcome of the k-th reply that counts, if n are to
abbrev pub outcome_at : ℕ → ℕ → Outcome
outcome_at k n = if k == n then Placed else Taken

-- each content that counts leaves one path fewer, and the same directories
pub record ContentCountsDown (m : MirrorState) (reply : Reply) : Type 0 where
  pub paths : length (awaited_in m.round) ≡ length (awaited_in (delivered m reply).0.round) + 1
  pub directories : prefixes_in (delivered m reply).0.round ≡ prefixes_in m.round

abbrev pub ContentsCountDown : MirrorState → Type 0
ContentsCountDown m = (reply : Reply) → content_counts m.round reply ≡ true → ContentCountsDown m reply

-- each list that counts leaves one directory fewer, and its paths are awaited after the
-- others
pub record ListCountsDown (m : MirrorState) (reply : Reply) : Type 0 where
  pub directories : length (prefixes_in m.round) ≡ length (prefixes_in (delivered m reply).0.round) + 1
  pub paths : awaited_in (delivered m reply).0.round ≡ distinct (awaited_in m.round ++ paths_listed reply)

abbrev pub ListsCountDown : MirrorState → Type 0
ListsCountDown m = (reply : Reply) → list_counts m.round reply ≡ true → ListCountsDown m reply

-- a reply that counts places the mirror exactly if it leaves neither a path nor a
-- directory
abbrev pub PlacesWithNoneLeft : MirrorState → Type 0
PlacesWithNoneLeft m = (reply : Reply) → counts_in m.round reply ≡ true → (delivered m reply).1 ≡ outcome_where (left_in (delivered m reply).0.round)

-- while paths or directories are awaited, no other reply does anything, except one that
-- ends the round
abbrev pub IgnoresOthers : MirrorState → Type 0
IgnoresOthers m = is_gathering m.round ≡ true → (reply : Reply) → counts_in m.round reply ≡ false
    → delivered m reply ≡ (if ends_in m.round reply then (record m { round = Idle }, Ended) else (m, Ignored))

-- while n paths and directories are awaited, no matter which replies come: the mirror is
-- placed by the reply that counts as number n plus the number of paths that lists have
-- added, and by none before it
abbrev pub PlacesWithTheLast : MirrorState → Type 0
PlacesWithTheLast m = is_gathering m.round ≡ true → (replies : List Reply) (reply : Reply) → counts_in (after m replies).round reply ≡ true
    → (delivered (after m replies) reply).1
    ≡ outcome_at (counted m replies + 1) (left_in m.round + added m replies + added_in (after m replies).round reply)
